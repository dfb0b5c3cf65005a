-- `locmaf_read_field::cells::pack` meets its contract, by the laws of `proofs/PackLoop.antt`.
use Rattle.locmaf_read_field.proofs.PackLoop.{Packing}
use Rattle.locmaf_read_field.proofs.cells.pack.Given as goal

abbrev pub invariant-loop-i : goal.invariant-loop-i
invariant-loop-i l = Packing l.o l.at l.k l.initial.x l.to l.x l.i
