-- `answers::refusals::drops` meets its contract: the test is the definition's.
use mathlib.Core.Path.{refl}
use Rattle.answers.proofs.refusals.drops.Goals as goal

pub returns : goal.returns
returns c = refl
