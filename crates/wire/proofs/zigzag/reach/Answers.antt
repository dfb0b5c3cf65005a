-- `wire::zigzag::reach` meets its contract, by cases on the coding.
use mathlib.Core.Path.{◌∙◌}
use Rattle.wire.proofs.ZigzagLaws.{plain-any}
use Rattle.wire.proofs.zigzag.reach.Goals as goal

pub returns-in-Plain : goal.returns-in-Plain
returns-in-Plain c = rw c.in-Plain.is (c.within.ensures ∙ plain-any 0 _ _ _)

pub returns-in-Delta : goal.returns-in-Delta
returns-in-Delta c = rw c.in-Delta.is c.moved.ensures
