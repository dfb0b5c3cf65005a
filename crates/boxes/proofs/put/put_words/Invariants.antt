-- `boxes::put::put_words` meets its contract: what is written is the words that the loop has passed.
use Prim.Native.Nat.{◌≤◌, ◌+◌, ◌*◌}
use mathlib.Core.Path.{◌≡◌}
use lib.ListN.{length, take}
use Rattle.laws.specs.Writes.{Wrote}
use Rattle.boxes.specs.Box.{words}
use Rattle.boxes.proofs.put.put_words.Given as goal

abbrev pub invariant-loop-i : goal.invariant-loop-i
invariant-loop-i l = (l.i ≤ length l.ws) × (l.p ≡ l.at + 4 * l.i) × (length l.out ≡ length l.initial.out) × Wrote l.initial.out l.at (words (take l.i l.ws)) l.out l.p
