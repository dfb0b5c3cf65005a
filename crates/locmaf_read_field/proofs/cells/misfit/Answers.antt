-- `locmaf_read_field::cells::misfit` meets its contract, by cases on what the line wants.
use mathlib.Core.Logic.{⊎_elim}
use Rattle.locmaf_read_field.proofs.CellLaws.{misfit-is}
use Rattle.field_table.specs.declared.lines.Want.TheVariants.{One, LessOne, Count, Ivs, Sum}
use Rattle.locmaf_read_field.proofs.cells.misfit.Goals as goal

pub returns-in-One : goal.returns-in-One
returns-in-One c = ⊎_elim (misfit-is One) (⊎_elim (misfit-is LessOne) (⊎_elim (misfit-is Count) (misfit-is Ivs))) c.in-One.is

pub returns-in-Sum : goal.returns-in-Sum
returns-in-Sum c = misfit-is Sum c.in-Sum.is
