-- `cmaf_read_shape::parts::first_in` meets its contract: the first box of the box's body.
use borrow.Author.Rules.{rules}
use Rattle.cmaf_read_shape.proofs.PartLaws.{list-ends, first-is}
use Rattle.cmaf_read_shape.proofs.parts.first_in.Goals as goal

pub end_of-requires : goal.end_of-requires
end_of-requires c = let h = list-ends _ c.body-list.ensures in search rules

pub box_at-requires : goal.box_at-requires
box_at-requires c = let h = list-ends _ c.body-list.ensures in search rules

pub returns : goal.returns
returns c = first-is _ c.body-list.ensures _ _ c.requires.0 c.end_of.ensures c.box_at.ensures
