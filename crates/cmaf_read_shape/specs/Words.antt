-- Numbers of a box in the chunk c, and its version and flags as one word.
-- ==== The rules
use Rattle.std.specs.Prelude.{ℕ, ◌+◌, ◌/◌, ◌%◌, List}
use Rattle.cmaf_read_tree.specs.Numbers.{u32}
use Rattle.byte_parts.specs.declared.Part.{Part}

-- version and flags stand after the head: the version is the highest byte, the flags are the other three
abbrev pub word_of : List ℕ → Part → ℕ
word_of c b = u32 c (b.at + 8)

-- 1 where the word has the flag, a power of 2
abbrev pub bit_of : ℕ → ℕ → ℕ
bit_of word flag = word / flag % 2
