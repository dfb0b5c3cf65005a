-- `cmaf_read_samples::cells::put_column` meets its contract, by the loop of `proofs/EachLaws.antt`.
use Prim.Native.Nat.{◌+◌}
use Rattle.cmaf_read_trun.specs.Rows.{cell}
use Rattle.cmaf_read_samples.specs.Ways.{value_of}
use Rattle.cmaf_read_trun.proofs.EachLaws.{Storing}
use Rattle.cmaf_read_samples.proofs.cells.put_column.Given as goal

abbrev pub invariant-loop-i : goal.invariant-loop-i
invariant-loop-i l = Storing (λ j. value_of l.way (cell l.c l.r l.column j)) l.initial.x (l.place + 1) l.n l.x l.i
