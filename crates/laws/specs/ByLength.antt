-- A definition that goes by what it says of shorter lists: written as an equation, with nothing that counts down in sight.
use Rattle.std.specs.Prelude.{ℕ, zero, suc, ◌<◌, ◌≡◌, List, length}

-- ==== The rules

module _ {A : Type 0} where
  -- F used at most n times, one inside the other, and z where that does not do
  unfoldable pub within : A → ((List ℕ → A) → List ℕ → A) → ℕ → List ℕ → A
  within z F zero s = F (λ _. z) s
  within z F (suc n) s = F (within z F n) s

  -- the function f that is F f; no list comes to z (`by-step` of proofs/ByLengthLaws)
  unfoldable pub by_length : A → ((List ℕ → A) → List ℕ → A) → List ℕ → A
  by_length z F s = within z F (length s) s

  -- ==== What only proofs need

  -- F says what a list is by what lists shorter than it are
  abbrev pub Local : ((List ℕ → A) → List ℕ → A) → Type 0
  Local F = (f g : List ℕ → A) (s : List ℕ) → ((r : List ℕ) → length r < length s → f r ≡ g r) → F f s ≡ F g s
