-- `field_set::rules::together` meets its contract: the tests are the definition's, in its order.
use mathlib.Core.Path.{refl}
use Rattle.laws.specs.Tests.{◌and◌}
use Rattle.field_set.specs.Lawful.{set_rules, stands_of}
use Rattle.field_set.proofs.rules.together.Goals as goal

pub returns : goal.returns
unfolding set_rules stands_of ◌and◌
returns c = λ marks e. rw e refl
