-- The words of a block's index: three for each id from 0 to 27.
-- ==== What only mirrors the code
use Rattle.std.specs.Prelude.{ℕ, ◌+◌, ◌*◌}
use Rattle.constants.specs.Ids.{id_count}

-- three words for each of the ids
abbrev pub index_len : ℕ
index_len = 3 * id_count

-- the first says whether the id stands: one more than the place of its part, or 0
abbrev pub stands_at : ℕ → ℕ
stands_at id = id * 3

-- then the number after its id: a scalar's value, or the length of its part
abbrev pub number_at : ℕ → ℕ
number_at id = id * 3 + 1

-- and how many numbers it has, or records
abbrev pub many_at : ℕ → ℕ
many_at id = id * 3 + 2
