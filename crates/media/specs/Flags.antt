-- Sample flags (ISO/IEC 14496-12, 8.8.3.1) as a number of 32 bits, and their five-bit form.
-- ==== The rules
use Rattle.std.specs.Prelude.{ℕ, ◌+◌, ◌*◌, ◌/◌, ◌%◌, ◌^◌, Bool, eqb}

-- a field of the flags: its lowest bit, and how many bits it has
pub record Field : Type 0 where
  pub low : ℕ
  pub bits : ℕ

-- 01: "non_sync at bit 16, depends_on at 24, is_depended_on at 22"
abbrev pub non_sync : Field
non_sync = record { low = 16; bits = 1 }

abbrev pub depends_on : Field
depends_on = record { low = 24; bits = 2 }

abbrev pub is_depended_on : Field
is_depended_on = record { low = 22; bits = 2 }

-- what a field of the flags x holds
abbrev pub field_in : Field → ℕ → ℕ
field_in f x = x / 2 ^ f.low % 2 ^ f.bits

-- 01: "each placed without touching those set before": x with the low bits of v in the field, every other bit as it was
abbrev pub placed : Field → ℕ → ℕ → ℕ
placed f v x = x / 2 ^ (f.low + f.bits) * 2 ^ (f.low + f.bits) + v % 2 ^ f.bits * 2 ^ f.low + x % 2 ^ f.low

-- 01: "They are put together one field after another"
unfoldable pub wide_of : ℕ → ℕ
wide_of f = placed is_depended_on (f / 8) (placed depends_on (f / 2) (placed non_sync f 0))

-- 01: "Five-bit flags: non_sync + 2 x depends_on + 8 x is_depended_on."
unfoldable pub five_of : ℕ → ℕ
five_of x = field_in non_sync x + 2 * field_in depends_on x + 8 * field_in is_depended_on x

-- 01: "Sample flags: only non_sync, depends_on, is_depended_on."
unfoldable pub only : ℕ → Bool
only x = eqb x (wide_of (five_of x))
