-- An ordered row of refusals as a list, read from top to bottom: each rung is a test and the number that is given where it fails.
use Rattle.std.specs.Prelude.{ℕ, Bool, true, false, ◌≡◌, ◌⊎◌, List, [], ◌∷◌}
use Rattle.laws.specs.Gate.{gate}

-- ==== The rules

pub record Rung : Type 0 where
  pub test : Bool
  pub number : ℕ

infix 30 ◌else◌
abbrev pub ◌else◌ : Bool → ℕ → Rung
t else n = record { test = t; number = n }

module _ {A : Type 0} where
  -- the refusal of the first rung whose test fails, or what is done where all hold
  unfoldable pub ladder : List Rung → (ℕ → A) → A → A
  ladder [] refuse done = done
  ladder (r ∷ rs) refuse done = gate r.test (refuse r.number) (ladder rs refuse done)

-- ==== What is shown of the rules

-- the number k is given exactly so: a rung of that number is broken and none before it; or no rung is broken and k is 0
abbrev pub Given : ℕ → List Rung → Type 0
Given k [] = k ≡ 0
Given k (r ∷ rs) = ((r.test ≡ false) × (k ≡ r.number)) ⊎ ((r.test ≡ true) × Given k rs)

-- every test of the ladder holds
abbrev pub Hold : List Rung → Type 0
Hold [] = Unit {0}
Hold (r ∷ rs) = (r.test ≡ true) × Hold rs
