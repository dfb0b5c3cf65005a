-- `cmaf_read_samples::cells::put_one` meets its contract, by the laws of `proofs/CellLaws.antt`.
use native.Mathlib.Omega.{arith}
use lib.ListN.{length-set}
use Rattle.cmaf_read_samples.proofs.CellLaws.{not-stored, one-stored}
use Rattle.cmaf_read_samples.proofs.cells.put_one.Goals as goal

pub bounds-x-place-then-stands : goal.bounds-x-place-then-stands
bounds-x-place-then-stands c = simp length-set (omega (arith, c.requires))

pub returns-then-stands : goal.returns-then-stands
returns-then-stands c = one-stored _ _ _ c.if-stands.true

pub returns-else-stands : goal.returns-else-stands
returns-else-stands c = not-stored _ _ _ c.if-stands.false
