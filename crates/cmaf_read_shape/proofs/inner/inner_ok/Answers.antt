-- `cmaf_read_shape::inner::inner_ok` meets its contract: the definition's tests, one by one.
use Rattle.cmaf_read_shape.proofs.InnerLaws.{inner-is}
use Rattle.cmaf_read_shape.proofs.inner.inner_ok.Goals as goal

pub returns : goal.returns
returns c = inner-is _ _ c.end_of.ensures c.end_of-2.ensures c.three_or_none.ensures
