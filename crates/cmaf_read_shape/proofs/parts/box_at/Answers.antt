-- `cmaf_read_shape::parts::box_at` meets its contract: the box of any type there has the type, or not.
use Rattle.cmaf_read_shape.proofs.PartLaws.{box-has, box-other}
use Rattle.cmaf_read_shape.proofs.parts.box_at.Goals as goal

pub returns-then-b-kind : goal.returns-then-b-kind
returns-then-b-kind c = box-has _ _ _ _ c.any_at-b.ensures c.requires.2 c.if-b-kind.true

pub returns : goal.returns
returns c = box-other _ _ _ _ c.any_at-b.ensures c.if-b-kind.false
