-- `cmaf_read_trun::columns::plain` meets its contract: the flags have 32 bits.
use Rattle.cmaf_read_trun.proofs.columns.plain.Goals as goal

pub returns : goal.returns
returns c = c.is_plain.ensures
