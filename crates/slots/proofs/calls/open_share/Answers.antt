-- `slots::calls::open_share` meets its contract: each return is a rung of the ladder, or its top.
use Rattle.slots.proofs.CallLaws.{open-unlawful, open-open, open-bad, open_done}
use mathlib.Core.Path.{sym, ◌∙◌}
use Rattle.slots.proofs.calls.open_share.Goals as goal

pub returns-then-not-is_lawful : goal.returns-then-not-is_lawful
returns-then-not-is_lawful c = let a = c.args in open-unlawful a.side a.a _ (sym c.is_lawful.ensures ∙ c.if-not-is_lawful.true)

pub returns-then-s-ne0 : goal.returns-then-s-ne0
returns-then-s-ne0 c = let a = c.args in open-open a.side a.a _ (sym c.is_lawful.ensures ∙ c.if-not-is_lawful.false) c.if-s-ne0.true

pub returns-then-not-is_lawful-2 : goal.returns-then-not-is_lawful-2
returns-then-not-is_lawful-2 c = let a = c.args in open-bad a.side a.a _ (sym c.is_lawful.ensures ∙ c.if-not-is_lawful.false) c.if-s-ne0.false (sym c.is_lawful-2.ensures ∙ c.if-not-is_lawful-2.true)

pub returns : goal.returns
returns c = rw c.write_asked.ensures (open_done c.args.side c.args.a _ (sym c.is_lawful.ensures ∙ c.if-not-is_lawful.false) c.if-s-ne0.false c.requires (sym c.is_lawful-2.ensures ∙ c.if-not-is_lawful-2.false))
