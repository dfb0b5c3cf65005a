-- An object by its bytes, where its block splits into whole tuples.
-- ==== What is shown of the rules
use Rattle.std.specs.Prelude.{ℕ, ◌≡◌, length}
use mathlib.Core.List.{List, ◌++◌, flatten}
use Rattle.wire.specs.declared.form.Row.{Row}
use Rattle.std.specs.Prelude.{Some}
use Rattle.wire.specs.Varint.{read_f}
use Rattle.locmaf_read_block.specs.Whole.{WholeTuple}
use Rattle.laws.specs.Each.{AllOf}

-- the header id and the length of the block, each one varint of any width; the block, which is whole tuples one behind the other; and the payload
pub record Parts (F : List Row) (o : List ℕ) : Type 0 where
  pub header : List ℕ
  pub long : List ℕ
  pub tuples : List (List ℕ)
  pub payload : List ℕ
  pub bytes : o ≡ header ++ (long ++ (flatten tuples ++ payload))
  pub id : ℕ
  pub header-reads : read_f F header ≡ Some (id, length header)
  pub length-reads : read_f F long ≡ Some (length (flatten tuples), length long)
  pub whole : AllOf (WholeTuple F) tuples
