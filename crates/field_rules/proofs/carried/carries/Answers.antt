-- `field_rules::carried::carries` meets its contract: the test as it stands.
use mathlib.Core.Path.{refl}
use Rattle.field_rules.proofs.carried.carries.Goals as goal

pub returns : goal.returns
returns c = refl
