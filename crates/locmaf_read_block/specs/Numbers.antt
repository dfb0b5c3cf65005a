-- The varints that fill a list of bytes.
use Rattle.std.specs.Prelude.{ℕ, Bool, true, cond, ◌&&◌, List, [], ◌∷◌, leb, ltb, length, Option, Some, None, Ok, Err}
use Rattle.std.proofs.Math.Seq.{slice}
use Rattle.wire.specs.declared.form.Row.{Row}
use Rattle.wire.specs.declared.zigzag.Coding.{Coding}
use Rattle.wire.specs.Form.{ones}
use Rattle.wire.specs.Varint.{read_f, on_got}
use Rattle.wire.specs.Zigzag.{reached}
use Rattle.runs.specs.declared.Misread.TheVariants.{Outside}
use Rattle.runs.specs.Run.{Filled, first, rest, stop, more}
use Rattle.locmaf_read_block.specs.Front.{Front, off, cut, Series, taken, wholly}
use Rattle.laws.specs.Options.{on_option}

-- ==== The rules

-- the varint at the front, wherever it stands
unfoldable pub number_front : List Row → ℕ → List ℕ → Front ℕ
number_front F at s = on_got (read_f F s) off cut

-- the varints off the front of s
unfoldable pub numbers_run : List Row → List ℕ → Series ℕ
numbers_run F s = taken (number_front F) 0 0 s

-- the varints that fill s, none where the last is cut
unfoldable pub numbers_f : List Row → List ℕ → Option (List ℕ)
numbers_f F s = wholly (numbers_run F s)

-- the values that the numbers zs on the wire stand for, up to one that is out of range
unfoldable pub steps_f : Coding → ℕ → ℕ → List ℕ → List ℕ → Filled
steps_f coding base bound old [] = stop (Ok tt)
steps_f coding base bound old (z ∷ zs) =
    on_option (reached coding (first base old) bound z) (λ v. more v (steps_f coding base bound (rest old) zs)) (stop (Err Outside))

-- ==== What only mirrors the code

-- how many things fill a list
unfoldable pub counted : {A : Type 0} → Series A → Option ℕ
counted r = cond r.whole (Some (length r.items)) None

-- how many varints fill the bytes from the place at to the place end
unfoldable pub count_at : List Row → List ℕ → ℕ → ℕ → Option ℕ
count_at F s at end = cond (leb end (length s)) (counted (numbers_run F (slice at end s))) None

-- each of the bytes is a varint by itself
unfoldable pub all_ones : List Row → List ℕ → Bool
all_ones F [] = true
all_ones F (b ∷ s) = ltb b (ones F) && all_ones F s
