-- `answers::room::has_room` meets its contract.
use mathlib.Core.Path.{refl}
use Rattle.answers.proofs.room.has_room.Goals as goal

pub returns : goal.returns
returns c = refl
