-- `cmaf_read_samples::sizes::put_sizes` meets its contract, by the loop of `proofs/EachLaws.antt`.
use Prim.Native.Nat.{◌+◌}
use Rattle.field_table.specs.Lines.{sizes_at}
use Rattle.cmaf_read_trun.specs.Rows.{size_at}
use Rattle.cmaf_read_trun.proofs.EachLaws.{Storing}
use Rattle.cmaf_read_samples.proofs.sizes.put_sizes.Given as goal

abbrev pub invariant-loop-i : goal.invariant-loop-i
invariant-loop-i l = Storing (size_at l.c l.r l.default) l.initial.x (sizes_at + 1) l.n l.x l.i
