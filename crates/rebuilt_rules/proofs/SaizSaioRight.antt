-- The `saiz` and the `saio` that are written are right: one says the size of each entry, whether by one size for all or by a table, the other leads to the
-- first entry. Assumes nothing.
use Prim.Native.Nat.{ℕ, zero, suc, ◌+◌, ◌≤◌, ◌<◌, ◌^◌}
use native.Mathlib.Nat.{zero-add, add-zero, not-suc-le-zero}
use native.Mathlib.Omega.{arith}
use mathlib.Core.Path.{◌≡◌, refl, sym}
use mathlib.Core.Bool.{Bool, true, false, cond, false≢true}
use mathlib.Core.List.{List, [], ◌∷◌, ◌++◌, append-nil}
use borrow.Author.Tests.{le-ltb, eq-eqb, ne_eqb, eqb-true}
use lib.Dec.{eqb}
use lib.ListN.{length, length-append}
use Rattle.constants.specs.Maxima.{samples_most}
use Rattle.laws.specs.Bytes.{be}
use Rattle.laws.proofs.BytesLaws.{length-be}
use Rattle.boxes.specs.Box.{full_box}
use Rattle.boxes.specs.Box as B
use Rattle.boxes.proofs.BoxLaws.{length-full_box}
use Rattle.cmaf_read_tree.specs.Numbers.{u8, u32}
use Rattle.track.specs.declared.Track.{Track}
use Rattle.field_set.specs.Lawful.{count_in}
use Rattle.cmaf_write_saiz.specs.Saiz.{info_size, info_sizes, all_sized, saiz_box, saio_box}
use Rattle.cmaf_write_senc.specs.Protection.{Protectable}
use Rattle.cmaf_write_saiz.proofs.InfoLaws.{info-small}
use Rattle.cmaf_write_saiz.proofs.SaizLaws.{sizes-length, saio-length}
use Rattle.byte_parts.specs.declared.Part.{Part}
use Rattle.cmaf_read_shape.specs.Parts.{part}
use Rattle.cmaf_read_shape.specs.Left.{Left}
use Rattle.cmaf_read_shape.proofs.LeftLaws.{left-past, left-number, left-byte, last-number}
use Rattle.cmaf_read_senc.specs.Sizes.{saiz_ok, saiz_count, info_size as info_at, saio_ok, leads_to}
use Rattle.rebuilt.proofs.FullBoxes.{full-word, full_body}

-- ---- the sizes of entries in the set

-- both tests of a step hold
both_hold : (a b : Bool) → cond a b false ≡ true → (a ≡ true) × (b ≡ true)
both_hold true b e = (refl, e)
both_hold false b e = absurd (false≢true e)

module _ (t : Track) (w : List ℕ) where
  -- where all have one size, each has it
  all-at : (v k i j : ℕ) → all_sized t w v k i ≡ true → j < k → info_size t w (i + j) ≡ v
  unfolding all_sized
  all-at v zero i j e lt = absurd (not-suc-le-zero lt)
  all-at v (suc k) i zero e lt = rw (add-zero i) (eqb-true _ _ (both_hold (eqb (info_size t w i) v) _ e).0)
  all-at v (suc k) i (suc j) e lt =
      let n : suc i + j ≡ i + suc j = omega arith in rw n at (all-at v k (suc i) j (both_hold (eqb (info_size t w i) v) _ e).1 (omega arith))

  -- a table of sizes, read one by one
  size-at : {c : List ℕ} {end : ℕ} (n : ℕ) → ((i : ℕ) → i < n → info_size t w i < 256) → (k i j at : ℕ) → i + k ≡ n → j < k
      → Left c at end (info_sizes t w k i) → u8 c (at + j) ≡ info_size t w (i + j)
  unfolding info_sizes
  size-at n low zero i j at e lt h = absurd (not-suc-le-zero lt)
  size-at n low (suc k) i zero at e lt h = rw (add-zero at, add-zero i) (left-byte (info_size t w i) (info_sizes t w k (suc i)) (low i (omega arith)) h)
  size-at {c} {end} n low (suc k) i (suc j) at e lt h =
      let p : at + 1 + j ≡ at + suc j = omega arith in
      let q : suc i + j ≡ i + suc j = omega arith in
      let l = left-past (info_size t w i ∷ []) (info_sizes t w k (suc i)) h in
      rw (p, q) at (size-at {c = c} {end = end} n low k (suc i) j (at + 1) (omega arith) (omega arith) l)

-- ---- the `saiz`

-- its length, and what it says to the rules
pub record SaizSays (t : Track) (c w : List ℕ) (b : Part) : Type 0 where
  pub long : 17 ≤ b.len
  pub right : saiz_ok c b ≡ true
  pub count : saiz_count c b ≡ count_in w
  pub says : (i : ℕ) → i < count_in w → info_at c b i ≡ info_size t w i

-- it is right where a table l stands behind the count just if the byte x before it is 0
says-by : {c : List ℕ} {at end : ℕ} (t : Track) (w : List ℕ) (x : ℕ) (l ys : List ℕ) → x < 256 → count_in w ≤ samples_most
    → Left c at end (full_box B.saiz 0 0 (x ∷ (be 4 (count_in w) ++ l)) ++ ys) → length l ≡ cond (eqb x 0) (count_in w) 0
    → ((stop : ℕ) → Left c (at + 17) stop l → (i : ℕ) → i < count_in w → cond (eqb x 0) (u8 c (at + 17 + i)) x ≡ info_size t w i)
    → SaizSays t c w (part at (length (full_box B.saiz 0 0 (x ∷ (be 4 (count_in w) ++ l)))))
unfolding saiz_ok saiz_count info_at be
says-by {c} {at} t w x l ys byte few h e each =
    let n : ℕ = count_in w in
    let size : ℕ = length (full_box B.saiz 0 0 (x ∷ (be 4 n ++ l))) in
    let long : size ≡ 17 + length l = simp (length-full_box, length-append, length-be) (omega arith) in
    let stands = le-ltb size 17 (omega arith) in
    let p : at + 12 + 1 ≡ at + 13 = omega arith in
    let q : at + 13 + 4 ≡ at + 17 = omega arith in
    let body = full_body B.saiz 0 0 (x ∷ (be 4 n ++ l)) ys h in
    let after = rw p at (left-past (x ∷ []) (be 4 n ++ l) body) in
    let first : u8 c (at + 12) ≡ x = left-byte x (be 4 n ++ l) byte body in
    let count : u32 c (at + 13) ≡ n = left-number 4 n l (omega (arith, few)) after in
    record {
      long = omega arith;
      right = rw (stands, full-word B.saiz 0 0 _ ys h (omega arith), first, count) (eq-eqb size (17 + cond (eqb x 0) n 0) (omega arith));
      count = rw stands count;
      says = λ i lt. rw first (each _ (rw q at (left-past (be 4 n) l after)) i lt);
    }

-- as it is written: the size of the first entry if all have it, else 0 and a table
pub saiz-says : {c : List ℕ} {at end : ℕ} (t : Track) (w ys : List ℕ) → Left c at end (saiz_box t w ++ ys) → Protectable t w → 0 < count_in w
    → (info_size t w 0 ≡ 0 → ⊥) → SaizSays t c w (part at (length (saiz_box t w)))
unfolding saiz_box
saiz-says {c} {at} {end} t w ys h p some positive = by (all_sized t w (info_size t w 0) (count_in w) 0) refl h
  where
    box_by : Bool → List ℕ
    box_by s = full_box B.saiz 0 0 (cond s (info_size t w 0 ∷ be 4 (count_in w)) (0 ∷ (be 4 (count_in w) ++ info_sizes t w (count_in w) 0)))

    by : (s : Bool) → all_sized t w (info_size t w 0) (count_in w) 0 ≡ s → Left c at end (box_by s ++ ys) → SaizSays t c w (part at (length (box_by s)))
    by true e h =
        let q = append-nil (be 4 (count_in w)) in
        rw q at
        (says-by {c = c} {at = at} {end = end} t w (info_size t w 0) [] ys (info-small p 0 some) p.few (rw q h) (rw (ne_eqb (info_size t w 0) 0 positive))
        (λ stop l i lt. rw (ne_eqb (info_size t w 0) 0 positive) (sym (rw (zero-add i) at (all-at t w (info_size t w 0) (count_in w) 0 i e lt)))))
    by false e h =
        says-by t w 0 (info_sizes t w (count_in w) 0) ys (omega arith) p.few h (sizes-length t w (count_in w) 0)
        (λ stop l i lt. rw (zero-add i) at (size-at t w (count_in w) (info-small p) (count_in w) 0 i (at + 17) (omega arith) lt l))

-- ---- the `saio`

module _ {c : List ℕ} {at end : ℕ} (offset : ℕ) (ys : List ℕ) (h : Left c at end (saio_box offset ++ ys)) where
  -- a count of 1, and the offset
  numbers : Left c (at + 12) (at + 12 + length (be 4 1 ++ be 4 offset)) (be 4 1 ++ be 4 offset)
  unfolding saio_box
  numbers = full_body B.saio 0 0 (be 4 1 ++ be 4 offset) ys h

  word-is : u32 c (at + 8) ≡ 0
  unfolding saio_box
  word-is = full-word B.saio 0 0 (be 4 1 ++ be 4 offset) ys h (omega arith)

  -- it has as many offsets as it counts
  pub saio-right : saio_ok c (part at (length (saio_box offset))) ≡ true
  unfolding saio_ok
  saio-right = rw (saio-length offset, word-is, left-number 4 1 (be 4 offset) (omega arith) numbers)

  -- its offset counts from the start of the `moof`
  pub saio-leads : (moof : Part) (place : ℕ) → offset < 2 ^ 32 → moof.at + offset ≡ place → leads_to c (part at (length (saio_box offset))) moof place ≡ true
  unfolding leads_to be
  saio-leads moof place lt e =
      let q : at + 12 + 4 ≡ at + 16 = omega arith in
      rw (saio-length offset, last-number 4 offset lt (rw q at (left-past (be 4 1) (be 4 offset) numbers))) (eq-eqb (moof.at + offset) place e)
