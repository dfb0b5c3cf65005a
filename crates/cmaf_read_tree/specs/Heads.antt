-- The head of a list's first box, as the code answers it.
-- ==== What only mirrors the code
use Rattle.std.specs.Prelude.{ℕ, List}
use Rattle.laws.specs.Gate.{gate}
use Rattle.std.specs.Prelude.{Option, Some, None}
use Rattle.cmaf_read_tree.specs.Whole.{size_of, kind_of, sized}

unfoldable pub head_of : List ℕ → Option (ℕ × ℕ)
head_of l = gate (sized l) None (Some (size_of l, kind_of l))
