-- `slots::calls::open_in` meets its contract: each return is a rung of the ladder, or its top.
use mathlib.Core.Path.{sym, ◌∙◌}
use Rattle.slots.proofs.CallLaws.{unlawful, not-open, open-now}
use Rattle.slots.proofs.calls.open_in.Goals as goal

pub returns-then-not-is_lawful : goal.returns-then-not-is_lawful
returns-then-not-is_lawful c = unlawful _ _ (sym c.is_lawful.ensures ∙ c.if-not-is_lawful.true)

pub returns-then-s-eq0 : goal.returns-then-s-eq0
returns-then-s-eq0 c = not-open _ _ (sym c.is_lawful.ensures ∙ c.if-not-is_lawful.false) c.if-s-eq0.true

pub returns : goal.returns
returns c = open-now _ _ (sym c.is_lawful.ensures ∙ c.if-not-is_lawful.false) c.if-s-eq0.false
