-- Version and flags of a box in the chunk c.
-- ==== The rules
use Rattle.std.specs.Prelude.{ℕ, ◌/◌, ◌%◌, List}
use Rattle.cmaf_read_shape.specs.Words.{word_of}
use Rattle.byte_parts.specs.declared.Part.{Part}

-- a box's version, of 8 bits, and its flags, of 24: the first word after its head
abbrev pub version_at : List ℕ → Part → ℕ
version_at c b = word_of c b / 0x100_0000

abbrev pub flags_at : List ℕ → Part → ℕ
flags_at c b = word_of c b % 0x100_0000
