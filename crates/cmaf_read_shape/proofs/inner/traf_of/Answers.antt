-- `cmaf_read_shape::inner::traf_of` meets its contract: each box where the one before it ends.
use Rattle.cmaf_read_shape.proofs.InnerLaws.{traf-is}
use Rattle.cmaf_read_shape.proofs.inner.traf_of.Goals as goal

pub returns : goal.returns
returns c =
    traf-is _ _ _ c.end_inside-end.ensures.0 c.first_in-tfhd.ensures.0
    c.after-tfdt.ensures.0 c.after-trun.ensures.0 c.end_of.ensures
    c.last_of-last.ensures
