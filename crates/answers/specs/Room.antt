-- Whether the output has room for what is to be written.
use Rattle.std.specs.Prelude.{ℕ, Bool, leb}

-- ==== The rules

-- 17: "output shorter than the front" where it doesn't (D119)
abbrev pub fits : ℕ → ℕ → Bool
fits need output = leb need output
