-- Laws of sample flags: of a field placed, once over every field, and of the five-bit form. Assumes nothing.
use Prim.Native.Nat.{ℕ, ◌+◌, ◌-◌, ◌*◌, ◌/◌, ◌%◌, ◌^◌, ◌≤◌, ◌<◌}
use native.Mathlib.Nat.{mod-lt, mod-mod, mod-eq_of_lt, add_assoc, add-mul, mul_assoc, mul_comm}
use native.Mathlib.Omega.{arith}
use mathlib.Core.Path.{◌≡◌, sym, ap, ◌∙◌}
use mathlib.Core.Logic.{◌⊎◌, inl, inr}
use mathlib.Core.Bool.{true}
use borrow.Author.Tests.{eq-eqb, eqb-true}
use lib.Arith.{digits_lt, digits_mod}
use lib.Pow.{pow_pos, pow-add, shr-shr, high, low, field, mod-pow-add, mod-mod-pow}
use Rattle.media.specs.Flags.{Field, non_sync, depends_on, is_depended_on, field_in, placed, wide_of, five_of, only}

-- numbers that agree from bit n on agree from a higher bit on
high_bits : (y x n m : ℕ) → n ≤ m → y / 2 ^ n ≡ x / 2 ^ n → y / 2 ^ m ≡ x / 2 ^ m
high_bits y x n m h e =
    let same : m ≡ n + (m - n) = omega arith in
    rw (same, ← shr-shr y n (m - n), e, shr-shr x n (m - n))

-- numbers that agree below bit n agree below a lower bit
low_bits : (y x n m : ℕ) → m ≤ n → y % 2 ^ n ≡ x % 2 ^ n → y % 2 ^ m ≡ x % 2 ^ m
low_bits y x n m h e =
    let same : n - m + m ≡ n = omega arith in
    sym (mod-mod-pow y (n - m) m) ∙ rw (same, e, ← same) (mod-mod-pow x (n - m) m)

module _ (f : Field) (v x : ℕ) where
  -- only the bits of v that the field has count
  pub placed-mod : placed f (v % 2 ^ f.bits) x ≡ placed f v x
  placed-mod = rw mod-mod

  -- what is placed, as the field and all above it, and the bits below it
  over-low : placed f v x ≡ (x / 2 ^ (f.low + f.bits) * 2 ^ f.bits + v % 2 ^ f.bits) * 2 ^ f.low + x % 2 ^ f.low
  over-low = rw (pow-add, mul_comm (2 ^ f.low), ← mul_assoc, ← add-mul)

  -- and as the bits above the field, and the field and all below it
  under-high : placed f v x ≡ x / 2 ^ (f.low + f.bits) * 2 ^ (f.low + f.bits) + (v % 2 ^ f.bits * 2 ^ f.low + x % 2 ^ f.low)
  under-high = add_assoc _ _ _

  -- the field and all below it
  small : v % 2 ^ f.bits * 2 ^ f.low + x % 2 ^ f.low < 2 ^ (f.low + f.bits)
  small = rw (pow-add, mul_comm (2 ^ f.low)) (digits_lt (mod-lt v (pow_pos f.bits)) (mod-lt x (pow_pos f.low)))

  -- the bits below the field stay
  pub placed_below : placed f v x % 2 ^ f.low ≡ x % 2 ^ f.low
  placed_below = rw over-low (low _ f.low (mod-lt x (pow_pos f.low)))

  -- the bits above the field stay
  pub placed-above : placed f v x / 2 ^ (f.low + f.bits) ≡ x / 2 ^ (f.low + f.bits)
  placed-above = rw under-high (high _ (f.low + f.bits) small)

  -- the field holds what was placed
  pub placed-in : field_in f (placed f v x) ≡ v % 2 ^ f.bits
  placed-in = rw (over-low, high _ f.low (mod-lt x (pow_pos f.low))) (low _ f.bits (mod-lt v (pow_pos f.bits)))

  -- a field that is wholly above or wholly below stays
  pub placed-other : (g : Field) → (f.low + f.bits ≤ g.low) ⊎ (g.low + g.bits ≤ f.low) → field_in g (placed f v x) ≡ field_in g x
  placed-other g (inl h) =
      ap (λ (n : ℕ). n % 2 ^ g.bits) (high_bits (placed f v x) x (f.low + f.bits) g.low h placed-above)
  placed-other g (inr h) =
      let fewer : g.bits + g.low ≤ f.low = omega arith in
      sym (field (placed f v x) g.bits g.low)
      ∙ ap (λ (n : ℕ). n / 2 ^ g.low) (low_bits (placed f v x) x f.low (g.bits + g.low) fewer placed_below)
      ∙ field x g.bits g.low

-- the three fields at their places, and no other bit
abbrev pub at_places : ℕ → ℕ → ℕ → ℕ
at_places sync on by = sync * 2 ^ non_sync.low + on * 2 ^ depends_on.low + by * 2 ^ is_depended_on.low

-- the three numbers of a five-bit form are its five bits
five-bits : (f : ℕ) → f % 2 + 2 * (f / 2 % 4) + 8 * (f / 8 % 4) ≡ f % 32
five-bits f = sum _ _ _ (mod-pow-add f 2 1) (mod-pow-add f 2 3)
  where
    sum : (a b c : ℕ) {m n : ℕ} → m ≡ b * 2 + a → n ≡ c * 8 + m → a + 2 * b + 8 * c ≡ n
    sum a b c p q = omega arith

module _ (f : ℕ) where
  -- what the flags of a five-bit form have in each field
  wide-sync : field_in non_sync (wide_of f) ≡ f % 2
  unfolding wide_of
  wide-sync =
      placed-other is_depended_on (f / 8) _ non_sync (inr (omega arith))
      ∙ placed-other depends_on (f / 2) _ non_sync (inr (omega arith))
      ∙ placed-in non_sync f 0

  wide-on : field_in depends_on (wide_of f) ≡ f / 2 % 4
  unfolding wide_of
  wide-on = placed-other is_depended_on (f / 8) _ depends_on (inl (omega arith)) ∙ placed-in depends_on (f / 2) _

  wide_by : field_in is_depended_on (wide_of f) ≡ f / 8 % 4
  unfolding wide_of
  wide_by = placed-in is_depended_on (f / 8) _

  -- a five-bit form comes back from its flags
  pub five-wide : f < 32 → five_of (wide_of f) ≡ f
  unfolding five_of
  five-wide h = (λ j. wide-sync j + 2 * wide-on j + 8 * wide_by j) ∙ five-bits f ∙ mod-eq_of_lt h

  -- its flags have no other bit
  pub wide_at : wide_of f ≡ at_places (f % 2) (f / 2 % 4) (f / 8 % 4)
  unfolding wide_of
  wide_at = omega arith

  -- so they pass the test for that
  pub wide-only : f < 32 → only (wide_of f) ≡ true
  unfolding only
  wide-only h = eq-eqb _ _ (sym (ap wide_of (five-wide h)))

-- three numbers that the fields hold come back from their five-bit form
parts : (a b c : ℕ) → a < 2 → b < 4 → c < 4
    → at_places ((a + 2 * b + 8 * c) % 2) ((a + 2 * b + 8 * c) / 2 % 4) ((a + 2 * b + 8 * c) / 8 % 4) ≡ at_places a b c
parts a b c h k l =
    let ea : (a + 2 * b + 8 * c) % 2 ≡ a = omega arith in
    let eb : (a + 2 * b + 8 * c) / 2 ≡ c * 4 + b = omega arith in
    let ec : (a + 2 * b + 8 * c) / 8 ≡ c = omega arith in
    rw (ea, eb, ec, digits_mod c k, mod-eq_of_lt l)

module _ (x : ℕ) where
  -- the form has five bits
  pub five-lt : five_of x < 32
  unfolding five_of
  five-lt = omega arith

  -- flags with no other bit come back from their five-bit form
  pub only-wide : only x ≡ true → x ≡ wide_of (five_of x)
  unfolding only
  only-wide h = eqb-true _ _ h

  -- what comes back of any flags is the three fields
  wide-five : wide_of (five_of x) ≡ at_places (field_in non_sync x) (field_in depends_on x) (field_in is_depended_on x)
  unfolding five_of
  wide-five = wide_at (five_of x) ∙ parts (field_in non_sync x) (field_in depends_on x) (field_in is_depended_on x) (omega arith) (omega arith) (omega arith)

  -- the test passes just where the flags have no other bit
  pub only-fields : only x ≡ true → x ≡ at_places (field_in non_sync x) (field_in depends_on x) (field_in is_depended_on x)
  only-fields h = only-wide h ∙ wide-five

  pub fields-only : x ≡ at_places (field_in non_sync x) (field_in depends_on x) (field_in is_depended_on x) → only x ≡ true
  unfolding only
  fields-only h = eq-eqb _ _ (h ∙ sym wide-five)
