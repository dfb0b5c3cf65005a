-- The number that some bytes of c at a place spell, the highest first.
-- ==== The rules
use Rattle.std.specs.Prelude.{ℕ, ◌+◌, List}
use Rattle.std.proofs.Math.Seq.{slice}
use Rattle.laws.specs.Bytes.{de}

abbrev pub u8 : List ℕ → ℕ → ℕ
u8 c at = de (slice at (at + 1) c)

abbrev pub u16 : List ℕ → ℕ → ℕ
u16 c at = de (slice at (at + 2) c)

abbrev pub u32 : List ℕ → ℕ → ℕ
u32 c at = de (slice at (at + 4) c)

abbrev pub u64 : List ℕ → ℕ → ℕ
u64 c at = de (slice at (at + 8) c)
