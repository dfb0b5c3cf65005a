-- `cmaf_read_shape::inner::three_or_none` meets its contract: the definition's tests, one by one.
use Rattle.cmaf_read_shape.proofs.InnerLaws.{three-is}
use Rattle.cmaf_read_shape.proofs.inner.three_or_none.Goals as goal

pub returns : goal.returns
returns c = three-is _ c.end_of.ensures c.end_of-2.ensures c.end_of-3.ensures
