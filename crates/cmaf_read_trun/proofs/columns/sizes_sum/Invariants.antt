-- `cmaf_read_trun::columns::sizes_sum` meets its contract, by the sum of those that are left.
use Prim.Native.Nat.{◌≤◌}
use mathlib.Core.Path.{◌≡◌}
use Rattle.constants.specs.Maxima.{samples_most}
use Rattle.cmaf_read_trun.specs.Rows.{size_at}
use Rattle.cmaf_read_trun.proofs.EachLaws.{Summed}
use Rattle.cmaf_read_trun.proofs.columns.sizes_sum.Given as goal

abbrev pub invariant-loop-i : goal.invariant-loop-i
invariant-loop-i l = (l.n ≡ l.r.count) × (l.n ≤ samples_most) × Summed (size_at l.c l.r l.default) l.n l.sum l.i
