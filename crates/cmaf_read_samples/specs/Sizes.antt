-- The sizes of the samples of a run in the set: a list, or one value.
use Rattle.std.specs.Prelude.{ℕ, ◌-◌, ◌≤◌, ◌<◌, ◌^◌, Bool, true, not, ◌&&◌, List, [], ◌∷◌, eqb, leb, get_or, take}
use Rattle.laws.specs.Tests.{◌and◌}
use Rattle.constants.specs.Maxima.{samples_most}
use Rattle.field_rules.specs.Fields.{Held}
use Rattle.cmaf_read_trun.specs.declared.rows.Run.{Run}
use Rattle.cmaf_read_trun.specs.Rows.{RowsIn}
use Rattle.cmaf_read_trun.specs.Samples.{sizes_of}
use Rattle.cmaf_read_samples.specs.Held.{held_if}

-- ==== The rules

-- all numbers of a list are the same
unfoldable pub all_same : ℕ → List ℕ → Bool
all_same v [] = true
all_same v (x ∷ xs) = eqb x v and all_same v xs

module _ (c : List ℕ) (r : Run) (default : ℕ) where
  -- the size that all samples have, if they are equal
  abbrev pub first_size : ℕ
  first_size = get_or (sizes_of c r default) 0 0

  abbrev pub equal_sizes : Bool
  equal_sizes = all_same first_size (sizes_of c r default)

  -- 01: "Samples above 1: sizes unequal, id 1 with all but the last"
  abbrev pub sizes_held : Bool → Held
  sizes_held equal = held_if (leb 2 r.count && not equal) (take (r.count - 1) (sizes_of c r default))

  -- "equal, id 6, unless trex is that size and not 0"
  abbrev pub size_held : ℕ → Bool → Held
  size_held trex equal = held_if (leb 2 r.count && (equal && not (eqb first_size trex && not (eqb first_size 0)))) (first_size ∷ [])

-- ==== What only mirrors the code

-- few rows, and a default size of 32 bits
abbrev pub Sized : List ℕ → Run → ℕ → Type 0
Sized c r default = RowsIn c r × (r.count ≤ samples_most) × (default < 2 ^ 32)
