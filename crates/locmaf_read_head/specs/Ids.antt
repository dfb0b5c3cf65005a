-- Which ids may stand in an object. 13: "id unknown, twice or forbidden here; a full without 10 or 14; only one of 18 and 20; 22 or 24 without
-- them; a delta with `prft` ids where the current full has none"; that ids are known and stand once is asked by crate `locmaf_read_index`.
use Rattle.std.specs.Prelude.{ℕ, Bool, cond, not, ◌&&◌, ◌||◌, List, eqb, get_or}
use Rattle.std.specs.Bool.{beq}
use Rattle.locmaf_read_index.specs.declared.index.Indexed.{Indexed}
use Rattle.locmaf_read_index.specs.declared.index.Indexed.TheVariants.{Clean, Stray, Cut}
use Rattle.locmaf_read_index.specs.Places.{stands_at}

-- ==== The rules

-- `at` says which ids stand, and `kept` that the current full object had a `prft`. Id 23 is forbidden in a delta ("Id 23 never"), and id 27 in
-- a full object, which deletes nothing (D82, D85, D86).
unfoldable pub ids_ok : Bool → Bool → (ℕ → Bool) → Bool
ids_ok delta kept at =
    beq (at 18) (at 20)
    && ((at 18 || not (at 22 || at 24))
    && cond delta (not (at 23) && (not (at 18) || kept)) (not (at 27) && (at 10 && at 14)))

-- ==== What only mirrors the code

-- an id stands, by the index of the block
abbrev pub stands_in : List ℕ → ℕ → Bool
stands_in index id = not (eqb (get_or index (stands_at id) 0) 0)

-- 01: "12 (tuples, varints, emsg records), 13": the number of a block by what its index answered, and whether its ids may stand
abbrev pub block_number : Indexed → Bool → ℕ
block_number Cut ok = 12
block_number Stray ok = 13
block_number Clean ok = cond ok 0 13

-- as far as the index tells it
abbrev pub index_number : Indexed → ℕ
index_number Cut = 12
index_number Stray = 13
index_number Clean = 0
