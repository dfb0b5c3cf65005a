-- `cmaf_read_shape::parts::end_inside` meets its contract: the end of the box's body.
use borrow.Author.Rules.{rules}
use Rattle.cmaf_read_shape.proofs.PartLaws.{list-ends, end_is}
use Rattle.cmaf_read_shape.proofs.parts.end_inside.Goals as goal

pub end_of-requires : goal.end_of-requires
end_of-requires c = let h = list-ends _ c.body-list.ensures in search rules

pub returns : goal.returns
returns c = end_is _ c.body-list.ensures c.end_of.ensures
