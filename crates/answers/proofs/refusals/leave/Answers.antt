-- `answers::refusals::leave` meets its contract, by the laws of `proofs/RefusalLaws.antt`.
use mathlib.Core.Path.{sym, ◌∙◌}
use Rattle.answers.proofs.RefusalLaws.{refusal-drops, refusal-keeps}
use Rattle.answers.proofs.refusals.leave.Goals as goal

pub returns-then-drops : goal.returns-then-drops
returns-then-drops c = c.drop_reference.ensures ∙ refusal-drops _ _ (sym c.drops.ensures ∙ c.if-drops.true)

pub returns-else-drops : goal.returns-else-drops
returns-else-drops c = refusal-keeps _ _ (sym c.drops.ensures ∙ c.if-drops.false)
