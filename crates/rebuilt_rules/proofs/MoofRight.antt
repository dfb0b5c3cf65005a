-- The boxes inside the `moof` that is written stand as they have to, whichever boxes are last; its `trun` has the right flags, version and length.
-- Assumes nothing.
use Prim.Native.Nat.{ℕ, ◌+◌, ◌≤◌, zero, suc, ◌*◌, ◌/◌, ◌%◌}
use native.Mathlib.Omega.{arith}
use mathlib.Core.Path.{◌≡◌, refl, sym, ◌∙◌, ap}
use mathlib.Core.Bool.{true, Bool, false, ◌&&◌, ◌||◌}
use mathlib.Core.List.{List}
use borrow.Author.Tests.{eq-eqb, ne_eqb, lt-ltb}
use lib.ListN.{length, length-append}
use Rattle.laws.specs.Bytes.{be}
use Rattle.boxes.specs.Box.{box, flag_when}
use Rattle.boxes.specs.Box as B
use Rattle.boxes.proofs.BoxLaws.{length-box, length-full_box}
use Rattle.track.specs.declared.Track.{Track}
use Rattle.cmaf_write_senc.specs.Protection.{Protectable}
use Rattle.cmaf_write_moof.specs.Moof.{protection, mfhd_box, tfhd_box, tfdt_box, trun_box, plain, moof_box}
use Rattle.field_set.specs.Lawful.{count_in, has}
use Rattle.cmaf_write_moof.specs.Lengths.{tfhd_length, trun_length, row_length}
use Rattle.cmaf_write_moof.proofs.MoofLaws.{tfhd-length, tfdt-length, trun-length}
use Rattle.cmaf_read_shape.specs.Parts.{part}
use Rattle.cmaf_read_shape.specs.Inner.{three_or_none, inner_ok}
use Rattle.rebuilt.proofs.WholeFront.{body-low}
use Rattle.rebuilt.proofs.InnerFront.{Last, place_of, inside_of, traf_at, last_at, inner_by, moof-long}
use native.Mathlib.Nat.{mul-zero, zero-mul, mul_comm}
use lib.Dec.{ltb}
use Rattle.laws.proofs.TestLaws.{both}
use Rattle.field_set.proofs.MarkLaws.{Marks}
use Rattle.byte_parts.specs.declared.Part.{Part}
use Rattle.cmaf_read_shape.specs.Words.{word_of}
use Rattle.cmaf_read_trun.specs.Rows.{run_flags_ok, run_head, run_width, trun_ok}
use Rattle.rebuilt.specs.Read.{trun_word, TrunRead}
use Rattle.rebuilt.proofs.Bits.{flag-four, TrunBits, trun-bits}

module _ (at : ℕ) (t : Track) (sequence : ℕ) (w : List ℕ) (payload offset : ℕ) where
  -- where the boxes of protected samples stand, from the start of the `moof`, and where the `traf` ends
  abbrev place : ℕ
  place = place_of at t sequence w payload offset

  abbrev inside : List ℕ
  inside = inside_of at t sequence w payload offset

  abbrev pub traf_end : ℕ
  traf_end = traf_at at t sequence w payload offset + (8 + length inside)

  -- the last boxes stand at their place
  pub last-place : at + place ≡ last_at at t sequence w payload offset
  unfolding plain
  last-place = simp length-append (omega arith)

  -- the way to the last boxes is short
  pub place-low : Protectable t w → place ≤ 3933
  place-low s =
      let n = body-low t w s sequence payload offset in
      let m = length-append (plain t w payload offset) (protection t w place) in
      omega (arith, n, m, length-append (mfhd_box sequence) (box B.traf inside), length-box B.traf inside)

  -- the boxes that must stand do, and the `traf` ends with the `moof`
  pub inner-right : (l : Last) → three_or_none (inner_by at t sequence w payload offset l) ≡ true
      → inner_ok (part at (length (moof_box t sequence w payload offset))) (inner_by at t sequence w payload offset l) ≡ true
  unfolding inner_ok mfhd_box tfhd_length trun_length
  inner-right l three =
      rw (
        three,
        ne_eqb (length (mfhd_box sequence)) 0 (λ z. omega (arith, length-full_box B.mfhd 0 0 (be 4 sequence), z)),
        ne_eqb (8 + length inside) 0 (λ z. omega (arith, z)),
        ne_eqb (length (tfhd_box t w)) 0 (λ z. omega (arith, tfhd-length t w, z)),
        ne_eqb (length (tfdt_box w)) 0 (λ z. omega (arith, tfdt-length w, z)),
        ne_eqb (length (trun_box t w payload offset)) 0 (λ z. omega (arith, trun-length t w payload offset, z)),
        eq-eqb traf_end (at + length (moof_box t sequence w payload offset))
            (omega (arith, moof-long at t sequence w payload offset, length-append (mfhd_box sequence) (box B.traf inside), length-box B.traf inside)),
      )

-- flags are right unless both the first sample's and every sample's stand
unless-both : (a u f : Bool) → (a || (u && f)) ≡ true → (f && u) ≡ false → a ≡ true
unless-both true u f e q = refl
unless-both false true true e q = sym q
unless-both false true false e q = e
unless-both false false f e q = e

module _ {t : Track} {c : List ℕ} {b : Part} {w : List ℕ} {payload offset : ℕ} (r : TrunRead t c b w payload offset) (m : Marks t (count_in w) w) where
  -- the word of n samples
  abbrev word : ℕ → ℕ
  word n = trun_word (has 12 w) (has 3 w) (ltb 0 n) (has 7 w) (has 5 w)

  bits : (n : ℕ) → TrunBits (has 12 w) (has 3 w) (ltb 0 n) (has 7 w) (has 5 w)
  bits n = trun-bits (has 12 w) (has 3 w) (ltb 0 n) (has 7 w) (has 5 w)

  -- the bytes of its rows
  rows_are : (n : ℕ) → run_width (word n) * n ≡ n * row_length w
  unfolding run_width row_length
  rows_are zero = rw (mul-zero, zero-mul)
  rows_are (suc n) = ap (λ (v : ℕ). v * suc n) ((bits (suc n)).columns ∙ rw (lt-ltb 0 (suc n) (omega arith)) (omega arith)) ∙ mul_comm _ (suc n)

  -- the length is what flags and count say
  pub trun-right : b.len ≡ length (trun_box t w payload offset) → trun_ok c b ≡ true
  unfolding trun_ok trun_length run_head
  trun-right long =
      rw (r.word, r.count, long, trun-length t w payload offset)
      (both _ _ (unless-both (run_flags_ok (word (count_in w))) (has 12 w) (has 7 w) (bits (count_in w)).right m.apart)
      (eq-eqb (20 + (flag_when (has 12 w) 4 + count_in w * row_length w)) (run_head (word (count_in w)) + run_width (word (count_in w)) * count_in w)
      (omega (arith, (bits (count_in w)).first, flag-four (has 12 w), rows_are (count_in w)))))

  -- composition offsets have a sign
  pub trun-version : word_of c b / 0x100_0000 ≡ 1
  trun-version = ap (λ (v : ℕ). v / 0x100_0000) r.word ∙ (bits (count_in w)).version

  -- without samples it has its data offset alone
  pub trun-alone : count_in w ≡ 0 → word_of c b % 0x100_0000 ≡ 1
  trun-alone n =
      let q = m.without n in
      ap (λ (v : ℕ). v % 0x100_0000) (r.word ∙ ap word n) ∙ (bits 0).low ∙ rw (q.0, q.1.0, q.1.1.0, q.1.1.1)
