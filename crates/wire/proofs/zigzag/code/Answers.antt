-- `wire::zigzag::code` meets its contract, by cases on the coding.
use mathlib.Core.Path.{sym, ◌∙◌}
use Rattle.wire.proofs.ZigzagLaws.{code-plain}
use Rattle.wire.proofs.zigzag.code.Goals as goal

pub returns-in-Plain : goal.returns-in-Plain
returns-in-Plain c = rw c.in-Plain.is (c.fit.ensures ∙ sym (code-plain _ _ _))

pub returns-in-Delta : goal.returns-in-Delta
returns-in-Delta c = rw c.in-Delta.is c.distance.ensures
