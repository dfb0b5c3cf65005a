-- `locmaf_read_field::cells::send_one` meets its contract, by what the number reaches.
use mathlib.Core.Path.{sym, ◌∙◌}
use native.Mathlib.Omega.{arith}
use lib.ListN.{length-set}
use Rattle.locmaf_read_field.proofs.CellLaws.{one_outside, one-to}
use Rattle.locmaf_read_field.proofs.cells.send_one.Goals as goal

pub returns-in_default : goal.returns-in_default
returns-in_default c = one_outside _ _ _ _ _ _ (sym c.reach.ensures ∙ c.in_default.is) c.outside.ensures

pub bounds-x-place-2 : goal.bounds-x-place-2
bounds-x-place-2 c = simp length-set (omega (arith, c.requires))

pub returns : goal.returns
returns c = one-to _ _ _ _ _ _ _ (sym c.reach.ensures ∙ c.in-Some.is) c.well.ensures
