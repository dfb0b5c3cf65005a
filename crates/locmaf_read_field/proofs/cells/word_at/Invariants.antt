-- `locmaf_read_field::cells::word_at` meets its contract, by the laws of `proofs/PackLoop.antt`.
use Rattle.locmaf_read_field.proofs.PackLoop.{Reading}
use Rattle.locmaf_read_field.proofs.cells.word_at.Given as goal

abbrev pub invariant-loop-i : goal.invariant-loop-i
invariant-loop-i l = Reading l.o l.at l.v l.i
