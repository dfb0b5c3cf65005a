-- `boxes::put::put_bytes` meets its contract: what is written is what the loop has passed of the source.
use mathlib.Core.Path.{◌≡◌}
use Prim.Native.Nat.{◌≤◌, ◌+◌}
use lib.ListN.{length, take}
use Rattle.laws.specs.Writes.{Wrote}
use Rattle.boxes.proofs.put.put_bytes.Given as goal

abbrev pub invariant-loop-i : goal.invariant-loop-i
invariant-loop-i l = (l.i ≤ length l.src) × (l.p ≡ l.at + l.i) × (length l.out ≡ length l.initial.out) × Wrote l.initial.out l.at (take l.i l.src) l.out l.p
