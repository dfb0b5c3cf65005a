-- What is saved, in percent.
use Rattle.std.specs.Prelude.{ℕ, ◌+◌, ◌*◌, ◌≤◌, ◌<◌}

-- q is the whole number nearest to n parts in w, and the larger one of two
abbrev pub IsNearest : ℕ → ℕ → ℕ → Type 0
IsNearest q n w = (2 * (w * q) ≤ 2 * n + w) × (2 * n + w < 2 * (w * q) + 2 * w)
