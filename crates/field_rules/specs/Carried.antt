-- The fields that are carried on.
use Rattle.std.specs.Prelude.{ℕ, Bool, eqb}

-- ==== The rules

-- 01: "An omitted list is carried only if its required length is unchanged": by its length in the reference and in the new set
abbrev pub carried_by : ℕ → ℕ → Bool
carried_by old new = eqb old new
