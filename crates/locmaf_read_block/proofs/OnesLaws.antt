-- Lists whose bytes are varints of one byte: how many numbers they have, and how a part of eight bytes after another tells it of a whole list. Assumes
-- nothing.
use Prim.Native.Nat.{ℕ, suc, ◌+◌, ◌-◌, ◌≤◌, ◌<◌}
use native.Mathlib.Omega.{arith}
use mathlib.Core.Path.{◌≡◌, refl, sym, ◌∙◌, ap}
use mathlib.Core.Bool.{Bool, true, false, not, ◌&&◌}
use mathlib.Core.List.{List, [], ◌∷◌, ◌++◌}
use borrow.Author.Tests.{ltb-true, le-leb, lt-leb, not-true, not-false}
use lib.Dec.{leb, ltb}
use lib.ListN.{length, get_or}
use lib.Seq.{slice, slice-cons, length-slice}
use Rattle.laws.proofs.SliceLaws.{slice-none, slice-join}
use Rattle.laws.proofs.TestLaws.{both_of, and_is, and-end}
use Rattle.wire.specs.declared.form.Row.{Row}
use Rattle.wire.specs.Form.{ones}
use Rattle.wire.proofs.FormLaws.{Lawful}
use Rattle.wire.proofs.ShortLaws.{front-one}
use Rattle.std.specs.Prelude.{Some}
use Rattle.locmaf_read_block.specs.Numbers.{numbers_run, counted, count_at, all_ones}
use Rattle.locmaf_read_block.proofs.NumberLaws.{numbers-none, numbers-one, plus-zero, counted-before, count-inside}
use Rattle.runs.specs.Run.{plus}

module _ (F : List Row) where
  -- each byte is a number
  counted-ones : Lawful 0 F → (s : List ℕ) → all_ones F s ≡ true → counted (numbers_run F s) ≡ Some (length s)
  unfolding all_ones counted
  counted-ones w [] e = rw (numbers-none F [] refl)
  counted-ones w (b ∷ s) e =
      let h = both_of (ltb b (ones F)) (all_ones F s) e in
      let one = numbers-one F (b ∷ s) b 1 (front-one F w b s (ltb-true b (ones F) h.0)) in
      let more : 1 + length s ≡ suc (length s) = omega arith in
      ap counted one ∙ sym (plus-zero _) ∙ counted-before 0 b (numbers_run F s) ∙ ap (plus 1) (counted-ones w s h.1) ∙ ap Some more

  pub count_ones : Lawful 0 F → (s : List ℕ) (at end : ℕ) → end ≤ length s → all_ones F (slice at end s) ≡ true → Some (end - at) ≡ count_at F s at end
  count_ones w s at end h e = sym (count-inside F s at end h ∙ counted-ones w (slice at end s) e ∙ ap Some (length-slice at end s h))

  ones-append : (xs ys : List ℕ) → all_ones F (xs ++ ys) ≡ (all_ones F xs && all_ones F ys)
  unfolding all_ones
  ones-append [] ys = refl
  ones-append (x ∷ xs) ys = go (ltb x (ones F)) (ones-append xs ys)
    where
      go : (a : Bool) → all_ones F (xs ++ ys) ≡ (all_ones F xs && all_ones F ys) → (a && all_ones F (xs ++ ys)) ≡ ((a && all_ones F xs) && all_ones F ys)
      go true ih = ih
      go false ih = refl

  -- a part and the part behind it
  pub ones-join : (f m t : ℕ) (s : List ℕ) → f ≤ m → m ≤ t → t ≤ length s
      → all_ones F (slice f t s) ≡ (all_ones F (slice f m s) && all_ones F (slice m t s))
  ones-join f m t s h k l = ap (all_ones F) (slice-join f m t s h k l) ∙ ones-append (slice f m s) (slice m t s)

  pub ones-four : (p : ℕ) (s : List ℕ) → p + 4 ≤ length s
      → all_ones F (slice p (p + 4) s)
      ≡ (ltb (get_or s p 0) (ones F) && (ltb (get_or s (p + 1) 0) (ones F) && (ltb (get_or s (p + 2) 0) (ones F) && ltb (get_or s (p + 3) 0) (ones F))))
  unfolding all_ones
  ones-four p s h =
      let e₁ : suc p ≡ p + 1 = omega arith in
      let e₂ : suc (p + 1) ≡ p + 2 = omega arith in
      let e₃ : suc (p + 2) ≡ p + 3 = omega arith in
      let s₀ : slice p (p + 4) s ≡ get_or s p 0 ∷ slice (p + 1) (p + 4) s = rw e₁ at (slice-cons p (p + 4) s 0 (omega arith) h) in
      let s₁ : slice (p + 1) (p + 4) s ≡ get_or s (p + 1) 0 ∷ slice (p + 2) (p + 4) s = rw e₂ at (slice-cons (p + 1) (p + 4) s 0 (omega arith) h) in
      let s₂ : slice (p + 2) (p + 4) s ≡ get_or s (p + 2) 0 ∷ slice (p + 3) (p + 4) s = rw e₃ at (slice-cons (p + 2) (p + 4) s 0 (omega arith) h) in
      let s₃ = slice-cons (p + 3) (p + 4) s 0 (omega arith) h in
      let s₄ = slice-none (suc (p + 3)) (p + 4) s (omega arith) in
      let all : slice p (p + 4) s ≡ get_or s p 0 ∷ get_or s (p + 1) 0 ∷ get_or s (p + 2) 0 ∷ get_or s (p + 3) 0 ∷ [] = cc in
      rw (all, ← and_is (ltb (get_or s (p + 3) 0) (ones F)) true, and-end (ltb (get_or s (p + 3) 0) (ones F)))

  -- ---- the walk over a list from the place at, eight bytes at a time, up to its last eight

  pub record Asking (s : List ℕ) (at end last p : ℕ) : Type 0 where
    pub bytes : end ≤ length s
    pub eight : last + 8 ≡ end
    pub low : at ≤ p
    pub high : p ≤ end
    pub from : at ≤ last
    pub ones : all_ones F (slice at p s) ≡ true

  module _ (s : List ℕ) (at end : ℕ) where
    -- fewer than eight
    pub few : end < at + 8 → false ≡ (leb (at + 8) end && all_ones F (slice at end s))
    few h = rw (lt-leb (at + 8) end h)

    pub asking-start : (last : ℕ) → end ≤ length s → last + 8 ≡ end → at ≤ last → Asking s at end last at
    unfolding all_ones
    asking-start last h e k = record { bytes = h; eight = e; low = omega arith; high = omega arith; from = k; ones = rw (slice-none at at s (omega arith)) }

    module _ (last p : ℕ) (i : Asking s at end last p) where
      -- eight bytes with a longer varint
      pub not-ones : p < last → {r : Bool} → r ≡ all_ones F (slice p (p + 8) s) → not r ≡ true → false ≡ (leb (at + 8) end && all_ones F (slice at end s))
      not-ones lt {r} q t =
          let e : false ≡ all_ones F (slice p (p + 8) s) = sym (not-true r t) ∙ q in
          let l : at + 8 ≤ end = omega (arith, i.from, i.eight) in
          let j = ones-join at p end s i.low (omega (arith, i.eight)) i.bytes in
          let k = ones-join p (p + 8) end s (omega arith) (omega (arith, i.eight)) i.bytes in
          rw (le-leb (at + 8) end l, j, i.ones, k, sym e)

      -- eight more
      pub asking-next : p < last → {r : Bool} → r ≡ all_ones F (slice p (p + 8) s) → not r ≡ false → Asking s at end last (p + 8)
      asking-next lt {r} q t =
          let e : true ≡ all_ones F (slice p (p + 8) s) = sym (not-false r t) ∙ q in
          let j = ones-join at p (p + 8) s i.low (omega arith) (omega (arith, i.bytes, i.eight)) in
          record { bytes = i.bytes; eight = i.eight; low = omega (arith, i.low); high = omega (arith, i.eight); from = i.from; ones = j ∙ rw (i.ones, sym e) }

      -- the last eight tell of all
      pub asked : last ≤ p → all_ones F (slice last (last + 8) s) ≡ (leb (at + 8) end && all_ones F (slice at end s))
      asked le =
          let l : at + 8 ≤ end = omega (arith, i.from, i.eight) in
          let j = ones-join at last p s i.from le (omega (arith, i.high, i.bytes)) in
          let t = both_of (all_ones F (slice at last s)) (all_ones F (slice last p s)) (sym j ∙ i.ones) in
          let m = ones-join at last end s i.from (omega (arith, i.eight)) i.bytes in
          rw (le-leb (at + 8) end l, m, t.0, i.eight)
