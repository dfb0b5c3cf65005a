-- The old values that are left, by the place that a loop is at. Assumes nothing.
use Prim.Native.Nat.{ℕ, zero, suc}
use mathlib.Core.Path.{◌≡◌, refl}
use mathlib.Core.List.{List, [], ◌∷◌}
use lib.ListN.{get_or, drop}
use Rattle.runs.specs.Run.{first, rest}

-- the first of those from the place i on is the one at i
pub first-drop : (l : List ℕ) (i base : ℕ) → first base (drop i l) ≡ get_or l i base
first-drop [] zero base = refl
first-drop [] (suc i) base = refl
first-drop (x ∷ l) zero base = refl
first-drop (x ∷ l) (suc i) base = first-drop l i base

-- those after it are those from the next place on
pub rest-drop : (l : List ℕ) (i : ℕ) → rest (drop i l) ≡ drop (suc i) l
rest-drop [] zero = refl
rest-drop [] (suc i) = refl
rest-drop (x ∷ l) zero = refl
rest-drop (x ∷ l) (suc i) = rest-drop l i
