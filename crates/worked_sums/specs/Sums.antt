-- The numbers that document 01 works out, a line each: what the definitions compute, and what the document states.
-- ==== The rules
use Rattle.std.specs.Prelude.{ℕ, ◌-◌, ◌^◌, List, [], ◌∷◌, ℤ, pos, neg_ℤ}
use Rattle.std.specs.Prelude.{Option, Some, None}
use Rattle.wire.specs.Form.{rfc9000}
use Rattle.wire.specs.Varint.{encode, read_f}
use Rattle.wire.specs.Zigzag.{zigzag}
use Rattle.media.specs.Flags.{wide_of}

pub record Sum : Type 0 where
  pub computed : List ℕ
  pub stated : List ℕ

infix 30 ◌gives◌
abbrev pub ◌gives◌ : List ℕ → List ℕ → Sum
c gives s = record { computed = c; stated = s }

abbrev pub minus : ℕ → ℤ
minus n = neg_ℤ (pos n)

-- what reading finds: the value, and how many bytes it took
abbrev pub found : Option (ℕ × ℕ) → List ℕ
found (Some (v, k)) = v ∷ k ∷ []
found None = []

-- 01: "Proved, as a single table under one claim: zigzag 0, -1, 1, -2, -2^61 give 0, 1, 2, 3, 2^62-1; varints 63, 64, 16383, 16384 give
-- `3f`, `4040`, `7fff`, `80004000`; `4025` reads 37; flags 3, 4, 31 give 0x01010000, 0x02000000, 0x03C10000."
unfoldable pub sums : List Sum
sums =
    (zigzag (pos 0) ∷ [] gives 0 ∷ [])
    ∷ (zigzag (minus 1) ∷ [] gives 1 ∷ [])
    ∷ (zigzag (pos 1) ∷ [] gives 2 ∷ [])
    ∷ (zigzag (minus 2) ∷ [] gives 3 ∷ [])
    ∷ (zigzag (minus (2 ^ 61)) ∷ [] gives (2 ^ 62 - 1) ∷ [])
    ∷ (encode rfc9000 63 gives 0x3f ∷ [])
    ∷ (encode rfc9000 64 gives 0x40 ∷ 0x40 ∷ [])
    ∷ (encode rfc9000 16383 gives 0x7f ∷ 0xff ∷ [])
    ∷ (encode rfc9000 16384 gives 0x80 ∷ 0x00 ∷ 0x40 ∷ 0x00 ∷ [])
    ∷ (found (read_f rfc9000 (0x40 ∷ 0x25 ∷ [])) gives 37 ∷ 2 ∷ [])
    ∷ (wide_of 3 ∷ [] gives 0x0101_0000 ∷ [])
    ∷ (wide_of 4 ∷ [] gives 0x0200_0000 ∷ [])
    ∷ (wide_of 31 ∷ [] gives 0x03C1_0000 ∷ [])
    ∷ []
