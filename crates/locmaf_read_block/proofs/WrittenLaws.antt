-- A block that was written is read as what was written, for any lawful form. Assumes nothing.
use Prim.Native.Nat.{ℕ, ◌+◌, ◌%◌, ◌≤◌, ◌<◌}
use native.Mathlib.Nat.{add-sub_cancel_left}
use native.Mathlib.Omega.{arith}
use mathlib.Core.Path.{◌≡◌, refl, sym, ◌∙◌, ap}
use mathlib.Core.Bool.{true, false, ◌||◌}
use mathlib.Core.List.{List, [], ◌∷◌, ◌++◌, map, append_assoc, append-nil}
use borrow.Author.Tests.{le-leb, eq-eqb, ne_eqb}
use lib.Dec.{eqb}
use lib.ListN.{length, length-append}
use lib.Seq.{drop-append_seam}
use Rattle.laws.proofs.SliceLaws.{slice-between}
use Rattle.wire.specs.declared.form.Row.{Row}
use Rattle.wire.specs.Form.{limit}
use Rattle.wire.specs.Varint.{encode, size_of}
use Rattle.wire.proofs.FormLaws.{Lawful}
use Rattle.wire.proofs.VarintLaws.{length-encode, read-encode, drop-encode}
use Rattle.std.specs.Prelude.{Some}
use Rattle.locmaf_read_block.specs.Front.{series, before, wholly}
use Rattle.locmaf_read_block.specs.Tuples.{part, tuple, body_f, tuple_f, tuples_run, tuples_f}
use Rattle.locmaf_read_block.specs.Numbers.{numbers_f}
use Rattle.locmaf_read_block.specs.Entries.{content, contents, entries_at, body}
use Rattle.block_items.specs.Items.{Item, num, run, enc_item, enc_block}
use Rattle.locmaf_read_block.specs.Written.{Writable, AllWritable, AllFit, varints, placed, place_all, entry_of}
use Rattle.locmaf_read_block.proofs.NumberLaws.{numbers-nil, numbers-cons}
use Rattle.locmaf_read_block.proofs.TupleLaws.{part-kind}
use Rattle.locmaf_read_block.proofs.TupleRuns.{tuples-off, tuples-none}

module _ (F : List Row) (w : Lawful 0 F) where
  -- reading the tuple that was written, with anything after it
  pub tuple-item : (at : ℕ) (i : Item) (rest : List ℕ) → Writable F i → tuple_f F at (enc_item F i ++ rest) ≡ Some (placed F at i, at + length (enc_item F i))
  unfolding tuple_f body_f enc_item placed
  tuple-item at (num id v) rest h =
      let l : at + length (encode F id ++ encode F v) ≡ at + size_of F id + size_of F v =
      omega (arith, length-append (encode F id) (encode F v), length-encode F id h.1, length-encode F v h.2) in
      rw (
        append_assoc (encode F id) (encode F v) rest,
        read-encode F w id h.1 (encode F v ++ rest),
        drop-encode F w id h.1 (encode F v ++ rest),
        read-encode F w v h.2 rest,
        eq-eqb _ _ h.0,
        l,
      )
  tuple-item at (run id bs) rest h =
      let n : ℕ = length bs in
      let tail : List ℕ = encode F n ++ bs in
      let l : at + length (encode F id ++ tail) ≡ at + size_of F id + size_of F n + n =
      omega (arith, length-append (encode F id) tail, length-append (encode F n) bs, length-encode F id h.1, length-encode F n h.2) in
      let m : n ≤ length (bs ++ rest) = omega (arith, length-append bs rest) in
      rw (
        append_assoc (encode F id) tail rest,
        append_assoc (encode F n) bs rest,
        read-encode F w id h.1 (encode F n ++ (bs ++ rest)),
        drop-encode F w id h.1 (encode F n ++ (bs ++ rest)),
        read-encode F w n h.2 (bs ++ rest),
        drop-encode F w n h.2 (bs ++ rest),
        ne_eqb _ _ h.0,
        le-leb _ _ m,
        l,
      )

  -- a block that was written splits into the tuples of its items, in their order
  run-written : (at : ℕ) (is : List Item) → AllWritable F is → tuples_run F at (enc_block F is) ≡ series (place_all F at is) true
  unfolding enc_block place_all
  run-written at [] h = tuples-none F at
  run-written at (i ∷ is) h =
      let n : ℕ = length (enc_item F i) in
      tuples-off F at (enc_item F i ++ enc_block F is) (placed F at i) (at + n) (tuple-item at i (enc_block F is) h.0)
      ∙ ap (before (placed F at i)) (rw (add-sub_cancel_left at n, drop-append_seam) (run-written (at + n) is h.1))

  pub tuples-written : (at : ℕ) (is : List Item) → AllWritable F is → tuples_f F at (enc_block F is) ≡ Some (place_all F at is)
  unfolding tuples_f wholly
  tuples-written at is h = rw (run-written at is h)

  -- a list's numbers
  pub numbers-written : (vs : List ℕ) → AllFit F vs → numbers_f F (varints F vs) ≡ Some vs
  unfolding varints
  numbers-written [] h = numbers-nil F
  numbers-written (v ∷ vs) h =
      let rest : List ℕ = varints F vs in
      numbers-cons F (encode F v ++ rest) v (size_of F v) vs (read-encode F w v h.0 rest)
      (ap (numbers_f F) (drop-encode F w v h.0 rest) ∙ numbers-written vs h.1)

-- what a tuple holds whose part is the one between two others
holds : (id n p l : ℕ) (pre mid post : List ℕ) → p ≡ length pre → l ≡ length mid
    → content (pre ++ (mid ++ post)) (tuple id n (part p l)) ≡ record { id = id; bytes = mid }
unfolding content
holds id n p l pre mid post e f = rw (part-kind id (part p l), e, f, slice-between pre mid post)

module _ (F : List Row) where
  content-item : (pre rest : List ℕ) (i : Item) → Writable F i → content (pre ++ (enc_item F i ++ rest)) (placed F (length pre) i) ≡ entry_of F i
  unfolding enc_item placed entry_of
  content-item pre rest (num id v) h =
      let e : pre ++ (encode F id ++ encode F v ++ rest) ≡ (pre ++ encode F id) ++ (encode F v ++ rest) = simp append_assoc in
      rw e
      (holds id v (length pre + size_of F id) (size_of F v) (pre ++ encode F id) (encode F v) rest
      (omega (arith, length-append pre (encode F id), length-encode F id h.1))
      (sym (length-encode F v h.2)))
  content-item pre rest (run id bs) h =
      let n : ℕ = length bs in
      let e : pre ++ (encode F id ++ (encode F n ++ bs) ++ rest) ≡ (pre ++ (encode F id ++ encode F n)) ++ (bs ++ rest) = simp append_assoc in
      rw e
      (holds id n (length pre + size_of F id + size_of F n) n (pre ++ (encode F id ++ encode F n)) bs rest
      (omega (
        arith,
        length-append pre (encode F id ++ encode F n),
        length-append (encode F id) (encode F n),
        length-encode F id h.1,
        length-encode F n h.2,
      ))
      refl)

  first-is : (pre post : List ℕ) (i : Item) (is : List Item) → Writable F i
      → content (pre ++ (enc_item F i ++ enc_block F is ++ post)) (placed F (length pre) i) ≡ entry_of F i
  first-is pre post i is h = rw append_assoc (content-item pre (enc_block F is ++ post) i h)

  others-are : (pre post : List ℕ) (i : Item) (is : List Item)
      → contents (pre ++ enc_item F i ++ (enc_block F is ++ post)) (place_all F (length (pre ++ enc_item F i)) is) ≡ map (entry_of F) is
      → contents (pre ++ (enc_item F i ++ enc_block F is ++ post)) (place_all F (length pre + length (enc_item F i)) is) ≡ map (entry_of F) is
  others-are pre post i is h =
      let e : pre ++ (enc_item F i ++ enc_block F is ++ post) ≡ pre ++ enc_item F i ++ (enc_block F is ++ post) = simp append_assoc in
      rw (e, ← length-append pre (enc_item F i)) h

  contents-written : (pre post : List ℕ) (is : List Item) → AllWritable F is
      → contents (pre ++ (enc_block F is ++ post)) (place_all F (length pre) is) ≡ map (entry_of F) is
  unfolding enc_block place_all
  contents-written pre post [] h = refl
  contents-written pre post (i ∷ is) h =
      λ j. first-is pre post i is h.0 j ∷ others-are pre post i is (contents-written (pre ++ enc_item F i) post is h.1) j

-- a block that was written, anywhere in a list, has the entries of its items, in their order
pub entries-written : (F : List Row) → Lawful 0 F → (pre post : List ℕ) (is : List Item) → AllWritable F is
    → entries_at F (pre ++ (enc_block F is ++ post)) (length pre) (length pre + length (enc_block F is)) ≡ Some (map (entry_of F) is)
unfolding entries_at
entries-written F w pre post is h =
    rw (slice-between pre (enc_block F is) post, tuples-written F w (length pre) is h) (ap Some (contents-written F pre post is h))

-- ---- what the entries of written items say

module _ (F : List Row) (w : Lawful 0 F) where
  -- a scalar its number
  pub body-num : (id v : ℕ) → id % 2 ≡ 0 → v < limit F → body F id (encode F v) ≡ Some (v ∷ [])
  unfolding body
  body-num id v e h =
      let r : List ℕ = encode F v in
      rw (eq-eqb _ _ e)
      (numbers-cons F r v (size_of F v) [] (rw append-nil at (read-encode F w v h []))
      (ap (numbers_f F) (rw append-nil at (drop-encode F w v h [])) ∙ numbers-nil F))

  -- a list its numbers
  pub body-list : (id : ℕ) (vs : List ℕ) → (id % 2 ≡ 0 → ⊥) → eqb id 25 ≡ false → eqb id 9 || eqb id 23 ≡ false → AllFit F vs
      → body F id (varints F vs) ≡ Some vs
  unfolding body
  body-list id vs e f g h = rw (ne_eqb _ _ e, f, g) (numbers-written F w vs h)

  -- raw bytes themselves
  pub body-raw : (id : ℕ) (bs : List ℕ) → (id % 2 ≡ 0 → ⊥) → eqb id 25 ≡ false → eqb id 9 || eqb id 23 ≡ true → body F id bs ≡ Some bs
  unfolding body
  body-raw id bs e f g = rw (ne_eqb _ _ e, f, g)
