-- Numbers from i up to n, one after another, and the loop over a row of tests of them. Assumes nothing.
use Prim.Native.Nat.{ℕ, zero, suc, ◌+◌, ◌-◌, ◌≤◌, ◌<◌}
use native.Mathlib.Nat.{add-zero, sub-zero}
use native.Mathlib.Numerals.{add-one}
use native.Mathlib.Omega.{arith}
use mathlib.Core.Path.{◌≡◌, sym, ◌∙◌, ap, ap₂}
use mathlib.Core.Bool.{Bool, true, ◌&&◌}
use Rattle.laws.specs.Tests.{◌and◌}
use Rattle.laws.proofs.TestLaws.{left, right, and-next, and-end}

module _ {A : Type 0} (rest : ℕ → ℕ → A) where
  -- none is left at the end
  left-none : (n i : ℕ) → n ≤ i → rest (n - i) i ≡ rest 0 i
  left-none n i h = let e : n - i ≡ 0 = omega arith in ap (λ (k : ℕ). rest k i) e

  -- and before it, i itself and those after it
  left-more : (n i : ℕ) → i < n → rest (n - i) i ≡ rest (suc (n - (i + 1))) i
  left-more n i h = let e : n - i ≡ suc (n - (i + 1)) = omega arith in ap (λ (k : ℕ). rest k i) e

-- a test of k numbers from i on holds where that of each does
pub record Row (test : ℕ → Bool) (rest : ℕ → ℕ → Bool) : Type 0 where
  pub none : (i : ℕ) → rest 0 i ≡ true
  pub more : (k i : ℕ) → rest (suc k) i ≡ (test i and rest k (suc i))

-- those before i are tested: what came of them, and what is left, is the whole
pub record Tested (rest : ℕ → ℕ → Bool) (n : ℕ) (ok : Bool) (i : ℕ) : Type 0 where
  pub here : i ≤ n
  pub whole : (ok and rest (n - i) i) ≡ rest n 0

module _ {test : ℕ → Bool} {rest : ℕ → ℕ → Bool} (row : Row test rest) where
  -- where all hold, each does
  pub row-each : (k i j : ℕ) → rest k i ≡ true → j < k → test (i + j) ≡ true
  row-each zero i j h lt = absurd (omega arith)
  row-each (suc k) i zero h lt = ap test (add-zero i) ∙ left _ _ (sym (row.more k i) ∙ h)
  row-each (suc k) i (suc j) h lt =
      let e : i + suc j ≡ suc i + j = omega arith in
      ap test e ∙ row-each k (suc i) j (right _ _ (sym (row.more k i) ∙ h)) (omega arith)

  -- none is tested yet
  pub tests-start : (n : ℕ) → Tested rest n true 0
  unfolding ◌and◌
  tests-start n = record { here = omega arith; whole = ap (λ (k : ℕ). rest k 0) (sub-zero n) }

  -- one more is tested
  pub tests-next : {n : ℕ} {ok : Bool} {i : ℕ} → Tested rest n ok i → i < n → (b : Bool) → b ≡ test i → Tested rest n (ok && b) (i + 1)
  tests-next {n} {ok} {i} t h b e =
      record {
        here = omega arith;
        whole =
            and-next ok b (rest (n - (i + 1)) (i + 1))
            ∙ ap (λ (x : Bool). ok and x) (ap₂ (λ (x : Bool) (j : ℕ). x and rest (n - (i + 1)) j) e (add-one i) ∙ sym (row.more (n - (i + 1)) i))
            ∙ ap (λ (x : Bool). ok and x) (sym (left-more rest n i h))
            ∙ t.whole;
      }

  -- all are tested
  pub tests-end : {n : ℕ} {ok : Bool} {i : ℕ} → Tested rest n ok i → n ≤ i → ok ≡ rest n 0
  tests-end {n} {ok} {i} t h = sym (and-end ok) ∙ ap (λ (x : Bool). ok and x) (sym (row.none i) ∙ sym (left-none rest n i h)) ∙ t.whole
