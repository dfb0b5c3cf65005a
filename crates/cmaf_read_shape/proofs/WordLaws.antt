-- Rows of tests as these boxes have them, and how many of four flags a word has. Assumes nothing.
use Prim.Native.Nat.{ℕ, ◌+◌, ◌%◌, ◌≤◌, ◌<◌}
use native.Mathlib.Omega.{arith}
use mathlib.Core.Path.{◌≡◌, refl, sym}
use mathlib.Core.Bool.{Bool, true, false, ◌&&◌}
use Rattle.laws.specs.Tests.{◌and◌}
use Rattle.cmaf_read_shape.specs.Words.{bit_of}

-- the second of two tests fails
pub fails : (a b : Bool) → b ≡ false → false ≡ (a and b)
unfolding ◌and◌
fails true b e = sym e
fails false b e = refl

-- a row of three tests is what code makes of it
pub and-three : (a b c : Bool) → (a && (b && c)) ≡ (a and (b and c))
unfolding ◌and◌
and-three true true c = refl
and-three true false c = refl
and-three false b c = refl

-- how many of four flags a word has
abbrev pub four : ℕ → ℕ → ℕ → ℕ → ℕ → ℕ
four f₁ f₂ f₃ f₄ word = bit_of word f₁ + (bit_of word f₂ + (bit_of word f₃ + bit_of word f₄))

-- a word with its bits from n on cut off has fewer, where it has the others and one more
pub four-less : (f₁ f₂ f₃ f₄ word n i j k l : ℕ) → bit_of (word % n) f₁ + i ≤ bit_of word f₁ → bit_of (word % n) f₂ + j ≤ bit_of word f₂
    → bit_of (word % n) f₃ + k ≤ bit_of word f₃ → bit_of (word % n) f₄ + l ≤ bit_of word f₄ → i + (j + (k + l)) ≡ 1
    → four f₁ f₂ f₃ f₄ (word % n) < four f₁ f₂ f₃ f₄ word
four-less f₁ f₂ f₃ f₄ word n i j k l =
    sums (bit_of (word % n) f₁) (bit_of (word % n) f₂) (bit_of (word % n) f₃) (bit_of (word % n) f₄)
    (bit_of word f₁) (bit_of word f₂) (bit_of word f₃) (bit_of word f₄)
  where
    sums : (a b c d a' b' c' d' : ℕ) → a + i ≤ a' → b + j ≤ b' → c + k ≤ c' → d + l ≤ d' → i + (j + (k + l)) ≡ 1
        → a + (b + (c + d)) < a' + (b' + (c' + d'))
    sums a b c d a' b' c' d' p q r s e = omega arith
