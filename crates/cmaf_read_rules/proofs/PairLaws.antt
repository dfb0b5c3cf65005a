-- Clear and protected bytes of subsamples, one after another. Assumes nothing.
use Prim.Native.Nat.{ℕ, zero, suc, ◌+◌, ◌-◌, ◌*◌, ◌^◌, ◌≤◌, ◌<◌}
use native.Mathlib.Omega.{arith}
use mathlib.Core.Path.{◌≡◌, refl, ap}
use mathlib.Core.List.{List}
use Rattle.cmaf_read_tree.specs.Numbers.{u16, u32}
use Rattle.cmaf_read_rules.specs.Rules.{pairs_sum}

pairs-none : (c : List ℕ) (k at : ℕ) → k ≡ 0 → 0 ≡ pairs_sum c k at
unfolding pairs_sum
pairs-none c zero at h = refl
pairs-none c (suc k) at h = absurd (omega arith)

pairs-more : (c : List ℕ) (k at : ℕ) → 0 < k → u16 c at + u32 c (at + 2) + pairs_sum c (k - 1) (at + 6) ≡ pairs_sum c k at
unfolding pairs_sum
pairs-more c zero at h = absurd (omega arith)
pairs-more c (suc k) at h = let z : suc k - 1 ≡ k = omega arith in ap (λ (n : ℕ). u16 c at + u32 c (at + 2) + pairs_sum c n (at + 6)) z

-- at a place among k subsamples: what is summed, with the bytes of those that are left from there on, is the bytes of all
pub record Adding (c : List ℕ) (at k sum p : ℕ) : Type 0 where
  pub left : ℕ
  pub place : p + 6 * left ≡ at + 6 * k
  pub small : sum + 0x1_0001_0000 * left ≤ 0x1_0001_0000 * k
  pub rest : sum + pairs_sum c left p ≡ pairs_sum c k at

pub adding-start : (c : List ℕ) (at k : ℕ) → Adding c at k 0 at
adding-start c at k = record { left = k; place = refl; small = omega arith; rest = omega arith }

module _ {c : List ℕ} {at k sum p : ℕ} (g : Adding c at k sum p) where
  pub adding-next : (a b : ℕ) → a ≡ u16 c p → b ≡ u32 c (p + 2) → a < 2 ^ 16 → b < 2 ^ 32 → p < at + 6 * k → Adding c at k (sum + (a + b)) (p + 6)
  adding-next a b e f s t h =
      let l : 0 < g.left = omega (arith, g.place) in
      record {
        left = g.left - 1;
        place = omega (arith, g.place);
        small = omega (arith, g.small);
        rest = omega (arith, e, f, pairs-more c g.left p l, g.rest);
      }

  -- no subsample is left
  pub adding-end : at + 6 * k ≤ p → sum ≡ pairs_sum c k at
  adding-end h = omega (arith, pairs-none c g.left p (omega (arith, g.place)), g.rest)
