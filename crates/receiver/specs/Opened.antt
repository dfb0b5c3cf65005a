-- What is known of an object before its block is read.
-- ==== What only mirrors the code
use Rattle.std.specs.Prelude.{ℕ, ◌≡◌, List, Result, Ok, Err}
use Rattle.refusal.specs.declared.Refusal.{Refusal}
use Rattle.refusal.specs.Numbers.{number_of}
use Rattle.wire.specs.declared.form.Row.{Row}
use Rattle.locmaf_read_head.specs.declared.head.Place.{Place}
use Rattle.receiver.specs.Receive.{track, refusing, taken, receiving}
use Rattle.receiver.specs.Judge.{Judgeable}

-- no rule up to the reference refuses: the block can be judged, and the rest of the order decides, whatever the output
pub record Opened (F : List Row) (o s : List ℕ) (p : Place) : Type 0 where
  pub judgeable : Judgeable F o s (track F o s) p
  pub goes_on : (output : List ℕ) → taken F o output s ≡ receiving F o output s

-- or one does
abbrev pub OpenedAs : List Row → List ℕ → List ℕ → Result Place Refusal → Type 0
OpenedAs F o s (Ok p) = Opened F o s p
OpenedAs F o s (Err r) = (output : List ℕ) → refusing output s (number_of r) ≡ receiving F o output s
