-- `cmaf_read_samples::sizes::all_equal` meets its contract, by the loop of `proofs/SizeLaws.antt`.
use Rattle.cmaf_read_trun.specs.Rows.{size_at}
use Rattle.cmaf_read_samples.proofs.SizeLaws.{Comparing}
use Rattle.cmaf_read_samples.proofs.sizes.all_equal.Given as goal

abbrev pub invariant-loop-i : goal.invariant-loop-i
invariant-loop-i l = Comparing (size_at l.c l.r l.default) l.n l.ok l.i
