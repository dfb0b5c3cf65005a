-- `field_table::marks::marks_of` meets its contract: the marks at the places of the table.
use mathlib.Core.Path.{refl}
use Rattle.field_table.specs.Lines.{lines, marks_of}
use Rattle.field_table.proofs.marks.marks_of.Goals as goal

pub returns : goal.returns
unfolding marks_of lines
returns c = refl
