-- `cmaf_read_shape::top::top_ok` meets its contract: the definition's tests, one by one.
use Rattle.cmaf_read_shape.proofs.TopLaws.{top-is}
use Rattle.cmaf_read_shape.proofs.top.top_ok.Goals as goal

pub returns : goal.returns
returns c = top-is _ _ c.end_of.ensures
