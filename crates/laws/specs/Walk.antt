-- Going through a list in steps of several elements with a state, as through a run of varints, of tuples or of records.
-- ==== What only proofs need
use Rattle.std.specs.Prelude.{ℕ, zero, suc, List, [], ◌∷◌}

-- a step's outcome: pass over so many elements more and go on with a state, or end with one
pub data Go (S : Type 0) : Type 0 where
  on : ℕ → S → Go S
  halt : S → Go S

abbrev pub on_go : {S : Type 0} → Go S → (ℕ → S → S) → S
on_go (on k x) f = f k x
on_go (halt x) f = x

-- A step sees the place that it starts at, what is left from there, and the state; `on k` takes the first element and k more.
module _ {S : Type 0} (step : ℕ → List ℕ → S → Go S) where
  -- through a list that starts at the place at, its first k elements passed over
  unfoldable pub walk : ℕ → ℕ → List ℕ → S → S
  walk k at [] x = x
  walk (suc k) at (b ∷ s) x = walk k (suc at) s x
  walk zero at (b ∷ s) x = on_go (step at (b ∷ s) x) (λ k y. walk k (suc at) s y)
