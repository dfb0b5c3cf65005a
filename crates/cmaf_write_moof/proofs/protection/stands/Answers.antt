-- `cmaf_write_moof::protection::stands` meets its contract: it is the definition.
use mathlib.Core.Path.{refl}
use Rattle.field_set.specs.Lawful.{has}
use Rattle.field_table.specs.Lines.{lines, line_for}
use Rattle.cmaf_write_moof.proofs.protection.stands.Goals as goal

pub returns : goal.returns
unfolding has line_for lines
returns c = refl
