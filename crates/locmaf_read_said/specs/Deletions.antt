-- The ids that a delta deletes. 01: "a vanished one is listed in id 27".
use Rattle.std.specs.Prelude.{ℕ, ◌≤◌, ◌≡◌, Bool, true, false, not, ◌&&◌, List, [], ◌∷◌, eqb, leb, length, get_or, set, Option, Some, None}
use Rattle.std.proofs.Math.Seq.{slice}
use Rattle.laws.specs.Tests.{◌and◌, among}
use Rattle.wire.specs.declared.form.Row.{Row}
use Rattle.field_set.specs.Lawful.{has}
use Rattle.locmaf_read_block.specs.Numbers.{numbers_f}
use Rattle.locmaf_read_index.specs.Places.{stands_at}
use Rattle.locmaf_read_said.specs.Said.{Says, says_in, Gone}
use Rattle.field_rules.specs.Fields.{numbers}

-- ==== The rules

-- an id of the moof fields that can be deleted. 01: "Ids 10 and 14 can't be deleted" (D89, D91)
unfoldable pub moof_field : ℕ → Bool
moof_field id = leb 1 id && (leb id 16 && (not (eqb id 10) && not (eqb id 14)))

abbrev pub is_none : Option (List ℕ) → Bool
is_none None = true
is_none (Some zs) = false

-- 01: "an id deleted stands once, was in the reference's moof fields and isn't sent again": of each id that id 27 lists, those of `seen` being
-- before it (D89)
unfoldable pub deletions_ok : List ℕ → Says → List ℕ → List ℕ → Bool
deletions_ok r says seen [] = true
deletions_ok r says seen (d ∷ ds) = (moof_field d && (has d r && (is_none (says d) && not (among d seen)))) and deletions_ok r says (d ∷ seen) ds

-- ==== What only mirrors the code

-- an id may be deleted, by the words of the index and the marks of those before it
unfoldable pub strikable : List ℕ → List ℕ → ℕ → List ℕ → Bool
strikable index r d gone =
    moof_field d && (has d r && (eqb (get_or index (stands_at d) 0) 0 && eqb (get_or gone d 0) 0))

-- an id was marked where it may be deleted
pub record StruckAs (index r : List ℕ) (d : ℕ) (before : List ℕ) (answer : Bool) (after : List ℕ) : Type 0 where
  pub answered : answer ≡ strikable index r d before
  pub marked : answer ≡ true → after ≡ set before d 1
  pub long : length after ≡ length before

-- the ids of id 27 stand in an object from one place up to another
pub record ListedAt (F : List Row) (o index : List ℕ) (from end : ℕ) : Type 0 where
  pub inside : end ≤ length o
  pub ids : numbers_f F (slice from end o) ≡ Some (numbers (says_in F o index 27))

-- all ids of id 27 were marked where all may be deleted
pub record MarkedAs (r : List ℕ) (says : Says) (answer : Bool) (gone : List ℕ) : Type 0 where
  pub answered : answer ≡ deletions_ok r says [] (numbers (says 27))
  pub marked : answer ≡ true → Gone gone (numbers (says 27))
