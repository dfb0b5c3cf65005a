-- `commands::command::cut` meets its contract as it stands.
use mathlib.Core.Path.{refl}
use Rattle.commands.proofs.command.cut.Goals as goal

pub returns : goal.returns
returns c = refl
