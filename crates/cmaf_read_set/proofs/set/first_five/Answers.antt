-- `cmaf_read_set::set::first_five` meets its contract.
use mathlib.Core.Path.{◌∙◌, ap}
use Rattle.media.specs.Flags.{five_of}
use Rattle.cmaf_read_set.proofs.set.first_five.Goals as goal

pub returns : goal.returns
returns c = c.five.ensures ∙ ap five_of c.first_flags.ensures.0
