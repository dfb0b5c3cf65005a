-- The fields that vanished.
use Rattle.std.specs.Prelude.{ℕ, Bool, not, ◌&&◌, eqb}

-- ==== The rules

-- 01: "a vanished one is listed in id 27": by its mark in the reference, if there is one, and in the new set
abbrev pub vanished_by : Bool → ℕ → ℕ → Bool
vanished_by held old new = held && (not (eqb old 0) && eqb new 0)
