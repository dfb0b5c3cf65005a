-- `cmaf_read_shape::inner::inner_of` meets its contract: each box where the one before it ends.
use Rattle.cmaf_read_shape.proofs.InnerLaws.{moof-is}
use Rattle.cmaf_read_shape.proofs.inner.inner_of.Goals as goal

pub returns : goal.returns
returns c =
    moof-is _ _ c.end_inside-end.ensures.0 c.first_in-mfhd.ensures.0 c.after-traf.ensures.0
    c.traf_of.ensures
