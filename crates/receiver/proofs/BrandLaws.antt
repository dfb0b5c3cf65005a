-- Bytes of an object by its index: the part of an odd id, the brands, and what id 9 says. Assumes nothing.
use Prim.Native.Nat.{ℕ, ◌+◌, ◌-◌, ◌%◌, ◌≤◌}
use native.Mathlib.Omega.{arith}
use mathlib.Core.Path.{◌≡◌, refl}
use mathlib.Core.Bool.{Bool, true, not}
use mathlib.Core.List.{List, []}
use Rattle.std.specs.Prelude.{Option, Some, None}
use borrow.Author.Tests.{eqb-true, eq-eqb, ne_eqb}
use lib.Dec.{eqb}
use lib.ListN.{length, get_or}
use lib.Seq.{slice, slice_empty}
use Rattle.locmaf_read_index.specs.Places.{stands_at, number_at}
use Rattle.laws.specs.Ladder.{Hold}
use Rattle.laws.proofs.TestLaws.{right, and_right}
use Rattle.wire.specs.declared.form.Row.{Row}
use Rattle.track.specs.declared.Track.{Track}
use Rattle.locmaf_read_index.specs.Held.{Tells}
use Rattle.locmaf_read_said.specs.Said.{Says, says_in, Telling}
use Rattle.field_rules.specs.Fields.{numbers}
use Rattle.locmaf_read_set.specs.Read.{brands_fit, field_rungs, set_rungs}
use Rattle.locmaf_read_said.proofs.TellingLaws.{part_says}
use Rattle.byte_parts.specs.declared.Part.{Part}
use Rattle.receiver.specs.Judge.{part_in}

-- ---- the part of an odd id

pub part_none : (index : List ℕ) (id : ℕ) → get_or index (stands_at id) 0 ≡ 0 → record { at = 0; len = 0 } ≡ part_in index id
unfolding part_in
part_none index id e = rw (eq-eqb _ _ e)

pub part-some : (index : List ℕ) (id : ℕ) → (get_or index (stands_at id) 0 ≡ 0 → ⊥)
    → record { at = get_or index (stands_at id) 0 - 1; len = get_or index (number_at id) 0 } ≡ part_in index id
unfolding part_in
part-some index id e = rw (ne_eqb _ _ e)

-- ---- the brands

-- a part of the object has the bytes that are said
pub record BrandsTold (o : List ℕ) (p : Part) (bs : List ℕ) : Type 0 where
  pub inside : p.at + p.len ≤ length o
  pub named : slice p.at (p.at + p.len) o ≡ bs
  pub long : p.len ≡ length bs

pub brands-told : (F : List Row) (o index : List ℕ) → Telling F o index → BrandsTold o (part_in index 23) (numbers (says_in F o index 23))
unfolding part_in
brands-told F o index h = go (says_in F o index 23) refl (h.each 23 (omega arith) (λ z. omega arith))
  where
    go : (m : Option (List ℕ)) → says_in F o index 23 ≡ m → Tells F o (length o) index [] [] 23 m → BrandsTold o (part_in index 23) (numbers m)
    go None e t =
        let z : get_or index (stands_at 23) 0 ≡ 0 = t 0 (omega arith) in
        rw (eq-eqb (get_or index (stands_at 23) 0) 0 z) (record { inside = omega arith; named = slice_empty 0 o; long = refl })
    go (Some bs) e t =
        let w = part_says F o index h bs e in
        rw (ne_eqb (get_or index (stands_at 23) 0) 0 (λ z. omega (arith, t.first))) (record { inside = w.1; named = w.0; long = w.2 })

-- some of four bytes each
fours : (m : Option (List ℕ)) → brands_fit m ≡ true → length (numbers m) % 4 ≡ 0
unfolding brands_fit
fours None e = refl
fours (Some bs) e = eqb-true _ _ (and_right (not (eqb (length bs) 0)) _ e)

-- where the rules of the set hold
pub brands-fours : (t : Track) (delta : Bool) (r : List ℕ) (says : Says) → Hold (set_rungs t delta r says) → length (numbers (says 23)) % 4 ≡ 0
unfolding set_rungs field_rungs
brands-fours t delta r says h = fours (says 23) (right _ _ h.1.1.0)
