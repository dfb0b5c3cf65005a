-- The loop of `put_low`, which stores the low bytes of v from the last to the first. Assumes nothing.
use Prim.Native.Nat.{ℕ, suc, ◌+◌, ◌-◌, ◌/◌, ◌%◌, ◌^◌, ◌≤◌, ◌<◌}
use native.Mathlib.Nat.{pow-suc, div-div-eq-div-mul, div-one, sub_self, sub-zero, add-zero}
use native.Mathlib.Omega.{arith}
use mathlib.Core.Path.{◌≡◌, ◌∙◌, ap}
use mathlib.Core.List.{List}
use lib.ListN.{length, set}
use lib.Seq.{sets, length-sets}
use Rattle.laws.specs.Bytes.{be}
use Rattle.laws.proofs.StoreLaws.{set-sets}

-- the bytes from the place j on are stored
pub record Put (l₀ : List ℕ) (at n v : ℕ) (l : List ℕ) (x j : ℕ) : Type 0 where
  pub high : j ≤ n
  pub inside : at + n ≤ length l₀
  pub left : x ≡ v / 256 ^ (n - j)
  pub stored : l ≡ sets l₀ (at + j) (be (n - j) v)

-- none is
pub start : (l₀ : List ℕ) (at n v : ℕ) → at + n ≤ length l₀ → Put l₀ at n v l₀ v n
unfolding be
start l₀ at n v h = record { high = omega arith; inside = h; left = rw (sub_self, div-one); stored = rw sub_self }

-- the stores keep the length
pub same : {l₀ : List ℕ} {at n v : ℕ} {l : List ℕ} {x j : ℕ} → Put l₀ at n v l x j → length l ≡ length l₀
same h = ap length h.stored ∙ simp length-sets

module _ (l₀ : List ℕ) (at n v : ℕ) (l : List ℕ) (x j : ℕ) (h : Put l₀ at n v l x j) where
  -- a byte more
  pub step : 0 < j → Put l₀ at n v (set l (at + (j - 1)) (x % 256)) (x / 256) (j - 1)
  unfolding be
  step lt =
      let e : n - (j - 1) ≡ suc (n - j) = omega (arith, h.high) in
      let p : suc (at + (j - 1)) ≡ at + j = omega arith in
      record {
        high = omega (arith, h.high);
        inside = h.inside;
        left = rw (h.left, e, pow-suc) (div-div-eq-div-mul v (256 ^ (n - j)) 256);
        stored = rw (h.stored, h.left, e, ← p) (set-sets (be (n - j) v) l₀ (at + (j - 1)) (suc (at + (j - 1))) _ (omega arith));
      }

  -- all are
  pub end : j ≤ 0 → (l ≡ sets l₀ at (be n v)) × (x ≡ v / 256 ^ n)
  end le = let e : j ≡ 0 = omega arith in (rw (e, add-zero, sub-zero) at h.stored, rw (e, sub-zero) at h.left)
