-- What each sample of a run has, in the order of the samples.
-- ==== The rules
use Rattle.std.specs.Prelude.{ℕ, zero, suc, cond, List, [], ◌∷◌}
use Rattle.cmaf_read_trun.specs.declared.rows.Run.{Run}
use Rattle.cmaf_read_trun.specs.Rows.{has_column, cell, size_at}

-- what a function says of the numbers from i on, k of them
unfoldable pub each_from : (ℕ → ℕ) → ℕ → ℕ → List ℕ
each_from f zero i = []
each_from f (suc k) i = f i ∷ each_from f k (suc i)

-- a column of the rows, where it stands
unfoldable pub column_of : List ℕ → Run → ℕ → List ℕ
column_of c r column = cond (has_column r column) (each_from (cell c r column) r.count 0) []

-- the sizes of the samples
unfoldable pub sizes_of : List ℕ → Run → ℕ → List ℕ
sizes_of c r default = each_from (size_at c r default) r.count 0
