-- `field_set::lawful::same_iv_size` meets its contract.
use Rattle.field_set.proofs.LawfulLaws.{iv-size-is}
use Rattle.field_set.proofs.lawful.same_iv_size.Goals as goal

pub returns : goal.returns
returns c = iv-size-is c.args.t c.args.w.now
