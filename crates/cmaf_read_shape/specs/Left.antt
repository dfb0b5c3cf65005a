-- What is left of a chunk from a place on, up to another: a list that was written.
-- ==== What only proofs need
use Rattle.std.specs.Prelude.{ℕ, ◌+◌, ◌≤◌, ◌≡◌, List, length}
use Rattle.cmaf_read_shape.specs.Parts.{list_at}

-- from the place at up to the place end of the chunk c stands the list l
pub record Left (c : List ℕ) (at end : ℕ) (l : List ℕ) : Type 0 where
  pub inside : end ≤ length c
  pub room : at + length l ≡ end
  pub is : list_at c at end ≡ l
