-- Laws of going through a list in steps, over any state and step. Assumes nothing.
use Prim.Native.Nat.{ℕ, zero, suc, ◌+◌, ◌≤◌, ◌<◌}
use native.Mathlib.Nat.{add-zero, add-suc, suc-add}
use mathlib.Core.Path.{◌≡◌, refl, ◌∙◌}
use mathlib.Core.List.{List, [], ◌∷◌}
use lib.ListN.{length, drop}
use lib.Seq.{slice, slice-cons}
use Rattle.laws.specs.Walk.{Go, on, halt, on_go, walk}
use Rattle.laws.proofs.SliceLaws.{drop-slice, slice-none}

module _ {S : Type 0} (step : ℕ → List ℕ → S → Go S) where
  -- passing over k elements is starting k elements later
  pub walk-past : (k at : ℕ) (s : List ℕ) (x : S) → walk step k at s x ≡ walk step 0 (at + k) (drop k s) x
  unfolding walk
  walk-past zero at s x = rw add-zero refl
  walk-past (suc k) at [] x = refl
  walk-past (suc k) at (b ∷ s) x = walk-past k (suc at) s x ∙ rw (suc-add at k, ← add-suc at k)

  -- at the end
  pub walk_end : (s : List ℕ) (p end : ℕ) (x : S) → end ≤ p → walk step 0 p (slice p end s) x ≡ x
  unfolding walk
  walk_end s p end x h = rw (slice-none p end s h)

  module _ (s : List ℕ) (p end : ℕ) (x : S) (h : end ≤ length s) (lt : p < end) where
    one : walk step 0 p (slice p end s) x ≡ on_go (step p (slice p end s) x) (λ k y. walk step k (suc p) (slice (suc p) end s) y)
    unfolding walk
    one = rw (slice-cons p end s 0 lt h)

    -- a step that ends the walk
    pub walk-halt : (y : S) → step p (slice p end s) x ≡ halt y → walk step 0 p (slice p end s) x ≡ y
    walk-halt y q = one ∙ rw q

    -- a step that goes on, from the place past what it took
    pub walk-on : (k : ℕ) (y : S) → step p (slice p end s) x ≡ on k y → walk step 0 p (slice p end s) x ≡ walk step 0 (suc p + k) (slice (suc p + k) end s) y
    walk-on k y q = one ∙ rw q (walk-past k (suc p) (slice (suc p) end s) y ∙ rw (drop-slice (suc p) end k s))
