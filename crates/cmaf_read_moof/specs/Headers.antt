-- `mfhd` and `tfdt`.
-- ==== The rules
use Rattle.std.specs.Prelude.{ℕ, ◌+◌, Bool, cond, ◌||◌, List, eqb}
use Rattle.laws.specs.Tests.{◌and◌}
use Rattle.byte_parts.specs.declared.Part.{Part}
use Rattle.cmaf_read_shape.specs.Words.{word_of}
use Rattle.cmaf_read_tree.specs.Numbers.{u32, u64}

-- 01: "Versions and flags not named are 0." The sequence number may be any (D40).
unfoldable pub mfhd_ok : List ℕ → Part → Bool
mfhd_ok c b = eqb b.len 16 and eqb (word_of c b) 0

-- 01: "`tfdt` (version 0 or 1)", flags 0; the time has 32 bits in version 0, and 64 in version 1
unfoldable pub tfdt_ok : List ℕ → Part → Bool
tfdt_ok c b = (eqb b.len 16 and eqb (word_of c b) 0) || (eqb b.len 20 and eqb (word_of c b) 0x100_0000)

-- the time of the first sample, BMDT
unfoldable pub bmdt_of : List ℕ → Part → ℕ
bmdt_of c b = cond (eqb (word_of c b) 0) (u32 c (b.at + 12)) (u64 c (b.at + 12))
