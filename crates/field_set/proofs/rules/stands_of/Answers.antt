-- `field_set::rules::stands_of` meets its contract: each field by its mark.
use mathlib.Core.Path.{refl}
use Rattle.field_table.specs.Lines.{line_number, lines}
use Rattle.field_set.specs.Lawful.{stands_of}
use Rattle.field_set.proofs.rules.stands_of.Goals as goal

pub returns : goal.returns
unfolding stands_of line_number lines
returns c = refl
