-- What holds of each of a list.
-- ==== What is shown of the rules
use Rattle.std.specs.Prelude.{List, [], ◌∷◌}

abbrev pub AllOf : {A : Type 0} → (A → Type 0) → List A → Type 0
AllOf P [] = Unit {0}
AllOf P (x ∷ xs) = P x × AllOf P xs
