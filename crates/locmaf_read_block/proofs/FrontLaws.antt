-- Laws of things that are taken off the front of a list one after another, over any front. Assumes nothing.
use Prim.Native.Nat.{ℕ, zero, suc, ◌+◌, ◌-◌, ◌<◌}
use native.Mathlib.Nat.{add-zero, add-suc, suc-add, not-suc-le-zero}
use native.Mathlib.Omega.{arith}
use mathlib.Core.Path.{◌≡◌, refl, ◌∙◌, ap}
use mathlib.Core.Bool.{true, false}
use mathlib.Core.List.{List, [], ◌∷◌, Permᴰ}
use lib.ListN.{length, drop}
use Rattle.laws.specs.Each.{AllOf}
use Rattle.locmaf_read_block.specs.Front.{Front, off, cut, series, before, taken}

-- and so in any order
pub all-turned : {A : Type 0} (P : A → Type 0) {xs ys : List A} → Permᴰ xs ys → AllOf P xs → AllOf P ys
all-turned P Permᴰ.nil h = tt
all-turned P (Permᴰ.cons e d) h = (rw e at h.0, all-turned P d h.1)
all-turned P (Permᴰ.swap e f) h = (rw f at h.1.0, (rw e at h.0, h.1.1))
all-turned P (Permᴰ.trans d d') h = all-turned P d' (all-turned P d h)

module _ {A : Type 0} (front : ℕ → List ℕ → Front A) where
  -- passing over k elements is starting k elements later
  pub taken-past : (k at : ℕ) (s : List ℕ) → taken front k at s ≡ taken front 0 (at + k) (drop k s)
  unfolding taken
  taken-past zero at s = rw add-zero
  taken-past (suc k) at [] = refl
  taken-past (suc k) at (b ∷ s) = taken-past k (suc at) s ∙ rw (suc-add at k, ← add-suc at k)

  -- nothing is left
  pub taken_none : (at : ℕ) (s : List ℕ) → length s ≡ 0 → taken front 0 at s ≡ series [] true
  unfolding taken
  taken_none at [] e = refl
  taken_none at (b ∷ s) e = absurd (omega arith)

  -- the front is cut
  pub taken-cut : (at : ℕ) (s : List ℕ) → 0 < length s → front at s ≡ cut → taken front 0 at s ≡ series [] false
  unfolding taken
  taken-cut at [] h e = absurd (not-suc-le-zero h)
  taken-cut at (b ∷ s) h e = rw e

  -- one is taken off
  pub taken-off : (at : ℕ) (s : List ℕ) (x : A) (k : ℕ) → 0 < length s → 0 < k → front at s ≡ off x k
      → taken front 0 at s ≡ before x (taken front 0 (at + k) (drop k s))
  unfolding taken
  taken-off at [] x k h j e = absurd (not-suc-le-zero h)
  taken-off at (b ∷ s) x zero h j e = absurd (not-suc-le-zero j)
  taken-off at (b ∷ s) x (suc k) h j e =
      let m : suc k - 1 ≡ k = omega arith in
      let n : suc at + k ≡ at + suc k = omega arith in
      rw (e, m) (ap (before x) (taken-past k (suc at) s ∙ rw n))
