-- `locmaf::locmaf_receive` meets its contract: the receiver's equation, with the payload's length.
use mathlib.Core.Path.{◌∙◌, ap}
use Rattle.locmaf.specs.Told.{tell}
use Rattle.locmaf.proofs.locmaf_receive.Goals as goal

pub returns : goal.returns
returns c = c.told_to.ensures _ _ ∙ ap tell c.receive-r.ensures
