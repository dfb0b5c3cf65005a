-- `field_rules::vanished::vanished` meets its contract: the three tests as they stand.
use mathlib.Core.Path.{refl}
use Rattle.field_rules.proofs.vanished.vanished.Goals as goal

pub returns : goal.returns
returns c = refl
