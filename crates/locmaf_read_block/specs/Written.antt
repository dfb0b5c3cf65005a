-- The tuples of items that were written: where they stand, and what they hold.
use Rattle.std.specs.Prelude.{ℕ, ◌+◌, ◌%◌, ◌<◌, ◌≡◌, List, [], ◌∷◌, ◌++◌, length}
use Rattle.wire.specs.declared.form.Row.{Row}
use Rattle.wire.specs.Form.{limit}
use Rattle.wire.specs.Varint.{encode, size_of}
use Rattle.locmaf_read_block.specs.declared.tuples.Tuple.{Tuple}
use Rattle.locmaf_read_block.specs.Tuples.{part, tuple}
use Rattle.locmaf_read_block.specs.Entries.{Entry}
use Rattle.block_items.specs.Items.{Item, num, run, enc_item}

-- ==== What only proofs need

module _ (F : List Row) where
  -- an item that the form can hold: its number or length and its id, which is even for a number and odd for bytes
  abbrev pub Writable : Item → Type 0
  Writable (num id v) = (id % 2 ≡ 0) × (id < limit F) × (v < limit F)
  Writable (run id bs) = (id % 2 ≡ 0 → ⊥) × (id < limit F) × (length bs < limit F)

  abbrev pub AllWritable : List Item → Type 0
  AllWritable [] = Unit {0}
  AllWritable (i ∷ is) = Writable i × AllWritable is

  -- numbers that the form can hold, and their bytes
  abbrev pub AllFit : List ℕ → Type 0
  AllFit [] = Unit {0}
  AllFit (v ∷ vs) = (v < limit F) × AllFit vs

  unfoldable pub varints : List ℕ → List ℕ
  varints [] = []
  varints (v ∷ vs) = encode F v ++ varints vs

  -- where an item's tuple stands, in a block that starts at the place at
  unfoldable pub placed : ℕ → Item → Tuple
  placed at (num id v) = tuple id v (part (at + size_of F id) (size_of F v))
  placed at (run id bs) = tuple id (length bs) (part (at + size_of F id + size_of F (length bs)) (length bs))

  unfoldable pub place_all : ℕ → List Item → List Tuple
  place_all at [] = []
  place_all at (i ∷ is) = placed at i ∷ place_all (at + length (enc_item F i)) is

  -- what its tuple holds
  unfoldable pub entry_of : Item → Entry
  entry_of (num id v) = record { id = id; bytes = encode F v }
  entry_of (run id bs) = record { id = id; bytes = bs }
