-- Sums over the values of a set's fields, and what keeps them within 64 bits.
use Rattle.std.specs.Prelude.{ℕ, ◌+◌, ◌≤◌, ◌≡◌, true, List, length}
use Rattle.std.proofs.Math.Seq.{slice}
use Rattle.laws.specs.Tests.{all_le, sum}
use Rattle.constants.specs.Maxima.{samples_most, subsamples_most}
use Rattle.field_table.specs.Lines.{lines, line_for, set_len}
use Rattle.field_set.specs.Lawful.{values_of, count_in}

-- ==== The rules

-- the bytes of k subsamples of a list field from the number j on
unfoldable pub bytes_of : ℕ → List ℕ → ℕ → ℕ → ℕ
bytes_of id w j k = let at = (line_for id lines).place + 1 + j in sum (slice at (at + k) w)

-- their clear bytes (id 13) and their protected ones (id 15)
abbrev pub pair_bytes : List ℕ → ℕ → ℕ → ℕ
pair_bytes w j k = bytes_of 13 w j k + bytes_of 15 w j k

-- ==== What only mirrors the code

-- all words that a field has room for keep its bound
abbrev pub Bounded : ℕ → List ℕ → Type 0
Bounded id w =
    let l = line_for id lines in
    all_le l.bound (slice (l.place + 1) (l.place + 1 + l.room) w) ≡ true

-- what keeps the sums of a set within 64 bits
pub record Summable (w : List ℕ) : Type 0 where
  pub words : length w ≡ set_len
  pub few : count_in w ≤ samples_most
  pub sizes : Bounded 1 w
  pub size : Bounded 6 w
  pub subsamples : sum (values_of 11 (count_in w) w) ≤ subsamples_most
  pub clear : Bounded 13 w
  pub protected : Bounded 15 w
