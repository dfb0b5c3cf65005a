-- `runs::fill_ones` meets its contract, by the laws of `proofs/FillLoop.antt`.
use Prim.Native.Nat.{ℕ, ◌+◌}
use Rattle.wire.specs.Form.{rows}
use Rattle.runs.specs.Run.{Filling}
use Rattle.runs.proofs.fill_ones.Given as goal

abbrev pub invariant-loop-i : goal.invariant-loop-i
invariant-loop-i l = (base : ℕ) → Filling (rows l.form) l.coding base l.bound l.s l.at l.end l.old l.initial.out l.to l.n l.out (l.at + l.i) l.i
