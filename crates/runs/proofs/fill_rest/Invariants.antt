-- `runs::fill_rest` meets its contract, by the laws of `proofs/FillLoop.antt`.
use Prim.Native.Nat.{ℕ}
use mathlib.Core.Path.{◌≡◌}
use mathlib.Core.List.{List}
use lib.ListN.{length}
use Rattle.wire.specs.Form.{rows}
use Rattle.runs.specs.Run.{Filling}
use Rattle.runs.proofs.fill_rest.Given as goal

abbrev pub invariant-loop-k : goal.invariant-loop-k
invariant-loop-k l =
    (length l.out ≡ length l.initial.out)
    × ((at : ℕ) (before : List ℕ)
    → Filling (rows l.form) l.coding l.base l.bound l.s at l.end l.old before l.to l.n l.initial.out l.p l.i
    → Filling (rows l.form) l.coding l.base l.bound l.s at l.end l.old before l.to l.n l.out l.at l.k)
