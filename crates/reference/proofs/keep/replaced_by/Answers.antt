-- `reference::keep::replaced_by` meets its contract as it stands.
use mathlib.Core.Path.{refl}
use Rattle.reference.proofs.keep.replaced_by.Goals as goal

pub returns : goal.returns
returns c = refl
