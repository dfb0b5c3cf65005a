-- `locmaf_write_prft::prft::if_absent` meets its contract: the share's in a delta, or the usual one.
use Rattle.locmaf_write_prft.proofs.TimeLaws.{kept-delta}
use Rattle.locmaf_write_prft.proofs.prft.if_absent.Goals as goal

pub returns-then-delta : goal.returns-then-delta
returns-then-delta c = kept-delta _ _ c.args.usual c.if-delta.true
