-- `wire_vectors::lists::long_lists` is safe and ends: the indexes stay within the lists, and so do the parts.
use Rattle.std.proofs.Common.{◌≡◌, ◌-◌, ◌<◌, ◌≤◌, length}
use Rattle.wire_vectors.proofs.lists.long_lists.Given as goal

abbrev pub invariant-loop-i : goal.invariant-loop-i
invariant-loop-i g l = (length l.new ≡ 66) × (length l.old ≡ 66) × (l.up < 20000) × (l.about < 20011) × (l.i ≤ 66)
