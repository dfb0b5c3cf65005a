-- What it is to have written some numbers at a place of a list.
-- ==== What only mirrors the code
use Rattle.std.specs.Prelude.{ℕ, ◌+◌, ◌≤◌, ◌≡◌, List, ◌++◌, length, take, drop}

-- `after` is `before` with the numbers vs in the place of those from `at` on, all of which `before` has; `next` is the place past them
pub record Wrote (before : List ℕ) (at : ℕ) (vs after : List ℕ) (next : ℕ) : Type 0 where
  pub room : at + length vs ≤ length before
  pub all : after ≡ take at before ++ vs ++ drop (at + length vs) before
  pub place : next ≡ at + length vs
