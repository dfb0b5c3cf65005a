-- `locmaf_write_prft::prft::ntp_number` meets its contract: a distance in a delta, or the time itself.
use Rattle.locmaf_write_prft.proofs.TimeLaws.{time-as}
use Rattle.locmaf_write_prft.proofs.prft.ntp_number.Goals as goal

pub returns : goal.returns
returns c = time-as _ _ _ c.coding_for.ensures c.code.ensures
