-- `reference::keep::copy_set` meets its contract, by the laws of `proofs/KeepLaws.antt`.
use Prim.Native.Nat.{◌-◌}
use Rattle.field_table.specs.Lines.{line_count}
use Rattle.reference.proofs.KeepLaws.{Turning}
use Rattle.reference.proofs.keep.copy_set.Given as goal

abbrev pub invariant-loop-i : goal.invariant-loop-i
invariant-loop-i l = Turning l.x l.initial.s l.s l.from l.i
