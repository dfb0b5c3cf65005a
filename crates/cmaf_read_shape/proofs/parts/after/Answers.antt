-- `cmaf_read_shape::parts::after` meets its contract: the box where the other one ends.
use Rattle.cmaf_read_shape.proofs.PartLaws.{after_is}
use Rattle.cmaf_read_shape.proofs.parts.after.Goals as goal

pub returns : goal.returns
returns c = after_is _ _ _ _ c.requires.0 c.requires.1 c.end_of.ensures c.box_at.ensures
