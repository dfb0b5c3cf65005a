-- `cmaf_write_senc::senc::pairs` meets its contract: the sum so far and the subsamples of the samples left are those of all.
use Prim.Native.Nat.{◌+◌, ◌-◌, ◌≤◌}
use mathlib.Core.Path.{◌≡◌}
use Rattle.field_set.proofs.ValueLaws.{pairs_left}
use Rattle.cmaf_write_senc.proofs.senc.pairs.Given as goal

abbrev pub invariant-loop-i : goal.invariant-loop-i
invariant-loop-i l = (l.i ≤ l.n) × (l.sum + pairs_left l.w l.n l.i ≡ pairs_left l.w l.n 0)
