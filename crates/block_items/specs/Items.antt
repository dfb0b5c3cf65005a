-- What a property block is to hold, an id and its number or an id, a length and the bytes; and its bytes.
use Rattle.std.specs.Prelude.{ℕ, List, [], ◌∷◌, ◌++◌, length}
use Rattle.wire.specs.declared.form.Row.{Row}
use Rattle.wire.specs.Varint.{encode}

-- ==== The rules

-- what a tuple is to hold
pub data Item : Type 0 where
  num : ℕ → ℕ → Item
  run : ℕ → List ℕ → Item

module _ (F : List Row) where
  unfoldable pub enc_item : Item → List ℕ
  enc_item (num id v) = encode F id ++ encode F v
  enc_item (run id bs) = encode F id ++ (encode F (length bs) ++ bs)

  unfoldable pub enc_block : List Item → List ℕ
  enc_block [] = []
  enc_block (i ∷ is) = enc_item i ++ enc_block is
