-- What brands a `styp` can be written from.
use Rattle.std.specs.Prelude.{ℕ, ◌%◌, ◌≤◌, ◌≡◌, List, length}
use Rattle.constants.specs.Maxima.{brand_bytes_most}

-- ==== What only mirrors the code

-- 01: "16 brands", of four bytes each
pub record Branded (b : List ℕ) : Type 0 where
  pub few : length b ≤ brand_bytes_most
  pub fours : length b % 4 ≡ 0
