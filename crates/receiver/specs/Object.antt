-- An object taken apart. Where a number is cut, 0 stands for it: the object is refused before anything goes by it.
-- ==== The rules
use Rattle.std.specs.Prelude.{ℕ, ◌+◌, ◌-◌, Bool, true, false, ◌||◌, List, [], ◌∷◌, eqb, leb, length, drop, Option}
use Rattle.laws.specs.Ladder.{Rung, ◌else◌}
use Rattle.constants.specs.Ids.{full_id, delta_id}
use Rattle.constants.specs.Maxima.{block_most}
use Rattle.wire.specs.declared.form.Row.{Row}
use Rattle.locmaf_read_block.specs.Records.{number}
use Rattle.locmaf_read_block.specs.Entries.{Entry, entries_at, readable, says}
use Rattle.laws.specs.Options.{on_option}
use Rattle.locmaf_read_said.specs.Said.{Says}

module _ (F : List Row) (o : List ℕ) where
  -- the header id, a varint, and the place behind it
  unfoldable pub header_reads : Bool
  header_reads = number F 0 o (λ id p. true) false

  unfoldable pub header_id : ℕ
  header_id = number F 0 o (λ id p. id) 0

  unfoldable pub length_at : ℕ
  length_at = number F 0 o (λ id p. p) 0

  -- the block length, a varint, and the place behind it, where the block stands
  unfoldable pub block_reads : Bool
  block_reads = number F length_at o (λ n at. leb n (length o - at)) false

  unfoldable pub block_length : ℕ
  block_length = number F length_at o (λ n at. n) 0

  unfoldable pub block_at : ℕ
  block_at = number F length_at o (λ n at. at) 0

  unfoldable pub block_end : ℕ
  block_end = block_at + block_length

  unfoldable pub is_delta : Bool
  is_delta = eqb header_id delta_id

  -- 01: "The receiver: 12 (header id), 10, 12 (block length cut or past the object), 15 (block over its maximum)" (D77, D78, D79)
  unfoldable pub head_rungs : List Rung
  head_rungs =
      (header_reads else 12)
      ∷ ((eqb header_id full_id || eqb header_id delta_id) else 10)
      ∷ (block_reads else 12)
      ∷ (leb block_length block_most else 15)
      ∷ []

  -- the tuples of the block, none where one is cut
  unfoldable pub tuples : Option (List Entry)
  tuples = entries_at F o block_at block_end

  -- 01: "12 (tuples, varints, emsg records)"
  unfoldable pub reads : Bool
  reads = on_option tuples (readable F) false

  unfoldable pub entries : List Entry
  entries = on_option tuples (λ es. es) []

  -- the numbers that the object has for an id
  abbrev pub saying : Says
  saying = says F entries

  unfoldable pub payload : List ℕ
  payload = drop block_end o
