-- Which lists are filled by their boxes, whatever stands inside these. The equation of `fills`, and the definition:
-- ==== What only mirrors the code
use Rattle.std.specs.Prelude.{ℕ, Bool, true, ◌||◌, List, eqb, length}
use Rattle.laws.specs.ByLength.{by_length}
use Rattle.laws.specs.Tests.{◌and◌}
use Rattle.cmaf_read_tree.specs.Whole.{after_of, sized}

abbrev pub fills_by : (List ℕ → Bool) → List ℕ → Bool
fills_by fills l = eqb (length l) 0 || (sized l and fills (after_of l))

unfoldable pub fills : List ℕ → Bool
fills l = by_length true fills_by l
