-- `cmaf_read_samples::cells::value` meets its contract, by its way.
use mathlib.Core.Path.{◌∙◌}
use Rattle.cmaf_read_samples.specs.declared.cells.Way.TheVariants.{Plain, Raised, Five}
use Rattle.cmaf_read_samples.proofs.CellLaws.{way-is}
use Rattle.cmaf_read_samples.proofs.cells.value.Goals as goal

pub returns-in-Plain : goal.returns-in-Plain
returns-in-Plain c = way-is Plain _ c.in-Plain.is

pub returns-in-Raised : goal.returns-in-Raised
returns-in-Raised c = way-is Raised _ c.in-Raised.is

pub returns-in-Five : goal.returns-in-Five
returns-in-Five c = c.five.ensures ∙ way-is Five _ c.in-Five.is
