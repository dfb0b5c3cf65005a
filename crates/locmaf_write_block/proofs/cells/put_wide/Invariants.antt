-- `locmaf_write_block::cells::put_wide` meets its contract: what is written is the words that the loop has passed.
use Prim.Native.Nat.{◌≤◌, ◌+◌, ◌*◌}
use mathlib.Core.Path.{◌≡◌}
use lib.ListN.{length, take}
use Rattle.laws.specs.Writes.{Wrote}
use Rattle.locmaf_write_tuples.specs.Items.{wide_bytes}
use Rattle.locmaf_write_block.proofs.cells.put_wide.Given as goal

abbrev pub invariant-loop-w : goal.invariant-loop-w
invariant-loop-w l = (l.w-index ≤ length l.ws) × (l.p ≡ l.at + 8 * l.w-index) × (length l.out ≡ length l.initial.out) × Wrote l.initial.out l.at (wide_bytes (take l.w-index l.ws)) l.out l.p
