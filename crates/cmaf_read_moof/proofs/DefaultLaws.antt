-- `tfhd`: its length, and that a field whose flag is set lies in it. Assumes nothing.
use Prim.Native.Nat.{ℕ, ◌+◌, ◌*◌, ◌%◌, ◌≤◌, ◌<◌}
use native.Mathlib.Omega.{arith}
use mathlib.Core.Path.{◌≡◌, refl, sym, ◌∙◌, ap}
use mathlib.Core.Bool.{true, false, ◌&&◌, ◌||◌}
use mathlib.Core.List.{List}
use borrow.Author.Tests.{eqb-true, eq-eqb, ne_eqb}
use lib.Dec.{eqb}
use Rattle.laws.proofs.TestLaws.{right, and_is, either}
use Rattle.media.specs.Flags.{wide_of}
use Rattle.track.specs.declared.Track.{Track}
use Rattle.byte_parts.specs.declared.Part.{Part}
use Rattle.cmaf_read_shape.specs.Words.{word_of, bit_of}
use Rattle.cmaf_read_tree.specs.Numbers.{u32}
use Rattle.cmaf_read_moof.specs.Defaults.{fields_in, tfhd_flags_ok, tfhd_ok, is_field, field_of, defaults_of}
use Rattle.cmaf_read_shape.proofs.WordLaws.{fails, four-less}

-- ---- the four flags

-- what holds of each of the four holds of any
each : (P : ℕ → Type 0) → P 0x2 → P 0x8 → P 0x10 → P 0x20 → (flag : ℕ) → is_field flag ≡ true → P flag
unfolding is_field
each P two eight ten twenty flag =
    either (P flag) (eqb flag 0x2) (eqb flag 0x8 || (eqb flag 0x10 || eqb flag 0x20)) (at 0x2 two)
    (either (P flag) (eqb flag 0x8) (eqb flag 0x10 || eqb flag 0x20) (at 0x8 eight)
    (either (P flag) (eqb flag 0x10) (eqb flag 0x20) (at 0x10 ten) (at 0x20 twenty)))
  where
    at : (n : ℕ) → P n → eqb flag n ≡ true → P flag
    at n p e = rw (eqb-true flag n e) p

pub flag-some : (flag : ℕ) → is_field flag ≡ true → 0 < flag
flag-some = each (λ (n : ℕ). 0 < n) (omega arith) (omega arith) (omega arith) (omega arith)

-- a field that is there counts one more than those of the flags below
pub field-counts : (word flag : ℕ) → is_field flag ≡ true → (bit_of word flag ≡ 0 → ⊥) → fields_in (word % flag) < fields_in word
unfolding fields_in
field-counts word =
    each (λ (n : ℕ). (bit_of word n ≡ 0 → ⊥) → fields_in (word % n) < fields_in word)
    (λ h. four-less 0x2 0x8 0x10 0x20 word 0x2 1 0 0 0 (omega arith) (omega arith) (omega arith) (omega arith) refl)
    (λ h. four-less 0x2 0x8 0x10 0x20 word 0x8 0 1 0 0 (omega arith) (omega arith) (omega arith) (omega arith) refl)
    (λ h. four-less 0x2 0x8 0x10 0x20 word 0x10 0 0 1 0 (omega arith) (omega arith) (omega arith) (omega arith) refl)
    (λ h. four-less 0x2 0x8 0x10 0x20 word 0x20 0 0 0 1 (omega arith) (omega arith) (omega arith) (omega arith) refl)

-- ---- the box

module _ (c : List ℕ) (b : Part) where
  pub tfhd-short : b.len < 16 → false ≡ tfhd_ok c b
  unfolding tfhd_ok
  tfhd-short h = fails _ _ (ne_eqb b.len (16 + 4 * fields_in (word_of c b)) (λ e. omega arith))

  -- the two tests of code, by the bits that it has found: the word, and the length by the fields
  pub tfhd-is : (word d u s g n : ℕ) → word ≡ word_of c b → d ≡ bit_of word 0x2 → u ≡ bit_of word 0x8 → s ≡ bit_of word 0x10 → g ≡ bit_of word 0x20
      → n ≡ fields_in word
      → (eqb word (0x2_0000 + (0x2 * d + (0x8 * u + (0x10 * s + 0x20 * g)))) && eqb b.len (16 + 4 * n)) ≡ tfhd_ok c b
  unfolding tfhd_ok tfhd_flags_ok
  tfhd-is word d u s g n e hd hu hs hg k =
      rw (hd, hu, hs, hg, k)
      (ap (λ (w : ℕ). tfhd_flags_ok w && eqb b.len (16 + 4 * fields_in w)) e
      ∙ sym (and_is (tfhd_flags_ok (word_of c b)) (eqb b.len (16 + 4 * fields_in (word_of c b)))))

  module _ (ok : tfhd_ok c b ≡ true) where
    pub tfhd-length : b.len ≡ 16 + 4 * fields_in (word_of c b)
    unfolding tfhd_ok
    tfhd-length = eqb-true _ _ (right _ _ ok)

    pub tfhd-long : 16 ≤ b.len
    tfhd-long = omega (arith, tfhd-length)

    -- a field whose flag is set ends in the box
    pub field-in : (flag word : ℕ) → is_field flag ≡ true → word ≡ word_of c b → (bit_of word flag ≡ 0 → ⊥)
        → 16 + 4 * fields_in (word % flag) + 4 ≤ b.len
    field-in flag word f e h =
        let s : fields_in (word % flag) < fields_in word = field-counts word flag f h in
        let l : fields_in word ≡ fields_in (word_of c b) = ap fields_in e in
        omega (arith, tfhd-length)

  pub field-other : (flag other word : ℕ) → word ≡ word_of c b → bit_of word flag ≡ 0 → other ≡ field_of c b flag other
  unfolding field_of
  field-other flag other word e h = sym (simp (sym e, eq-eqb (bit_of word flag) 0 h))

  pub field-own : (flag other word n r : ℕ) → word ≡ word_of c b → (bit_of word flag ≡ 0 → ⊥) → n ≡ fields_in (word % flag)
      → r ≡ u32 c (b.at + 16 + 4 * n) → r ≡ field_of c b flag other
  unfolding field_of
  field-own flag other word n r e h k s =
      s ∙ ap (λ (m : ℕ). u32 c (b.at + 16 + 4 * m)) k ∙ sym (simp (sym e, ne_eqb (bit_of word flag) 0 h))

  -- what was found, field by field
  pub defaults-are : (t : Track) {n d u s g : ℕ} → n ≡ u32 c (b.at + 12) → d ≡ field_of c b 0x2 t.description → u ≡ field_of c b 0x8 t.duration
      → s ≡ field_of c b 0x10 t.size → g ≡ field_of c b 0x20 (wide_of t.flags)
      → record { track = n; description = d; duration = u; size = s; flags = g } ≡ defaults_of t c b
  defaults-are t hn hd hu hs hg = rw (hn, hd, hu, hs, hg) refl
