-- Recursion on a list that gets shorter, once for every such definition. Assumes nothing.
use Prim.Native.Nat.{ℕ, zero, suc, ◌≤◌}
use native.Mathlib.Omega.{arith}
use native.Mathlib.Nat.{le_refl}
use mathlib.Core.Path.{◌≡◌, refl, ◌∙◌}
use mathlib.Core.List.{List}
use lib.ListN.{length}
use Rattle.laws.specs.ByLength.{Local, within, by_length}

module _ {A : Type 0} (z : A) (F : (List ℕ → A) → List ℕ → A) (local : Local F) where
  -- from the list's length on, the bound doesn't matter
  free : (n m : ℕ) (s : List ℕ) → length s ≤ n → length s ≤ m → within z F n s ≡ within z F m s
  unfolding within
  free zero zero s p q = refl
  free zero (suc m) s p q = local (λ _. z) (within z F m) s (λ r l. absurd (omega arith))
  free (suc n) zero s p q = local (within z F n) (λ _. z) s (λ r l. absurd (omega arith))
  free (suc n) (suc m) s p q = local (within z F n) (within z F m) s (λ r l. free n m r (omega arith) (omega arith))

  -- the equation that the definition is written as
  pub by-step : (s : List ℕ) → by_length z F s ≡ F (by_length z F) s
  unfolding within by_length
  by-step s =
      free (length s) (suc (length s)) s (le_refl (length s)) (omega arith)
      ∙ local (within z F (length s)) (by_length z F) s (λ r l. free (length s) (length r) r (omega arith) (le_refl (length r)))
