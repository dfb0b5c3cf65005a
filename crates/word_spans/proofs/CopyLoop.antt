-- The loop of `copy`: the words that are left to copy give the whole. Assumes nothing.
use Prim.Native.Nat.{ℕ, suc, ◌+◌, ◌≤◌, ◌<◌}
use native.Mathlib.Nat.{add-zero}
use native.Mathlib.Omega.{arith}
use mathlib.Core.Path.{◌≡◌, refl, ◌∙◌}
use mathlib.Core.List.{List, ◌∷◌}
use lib.ListN.{length, get_or, set, length-set}
use lib.Seq.{slice, sets, slice-cons}
use Rattle.laws.proofs.SliceLaws.{slice-none}

-- i of n words are copied
pub record Copying (r : List ℕ) (from n : ℕ) (x₀ : List ℕ) (to : ℕ) (x : List ℕ) (i : ℕ) : Type 0 where
  pub source : from + n ≤ length r
  pub room : to + n ≤ length x₀
  pub same : length x ≡ length x₀
  pub left : sets x (to + i) (slice (from + i) (from + n) r) ≡ sets x₀ to (slice from (from + n) r)

module _ (r : List ℕ) (from n : ℕ) (x₀ : List ℕ) (to : ℕ) where
  pub start : (from + n ≤ length r) × (to + n ≤ length x₀) → Copying r from n x₀ to x₀ 0
  start h = record { source = h.0; room = h.1; same = refl; left = rw (add-zero to, add-zero from) }

  module _ (x : List ℕ) (i : ℕ) (h : Copying r from n x₀ to x i) where
    pub end : n ≤ i → x ≡ sets x₀ to (slice from (from + n) r)
    end k = rw (slice-none (from + i) (from + n) r (omega arith)) at h.left

    pub next : i < n → Copying r from n x₀ to (set x (to + i) (get_or r (from + i) 0)) (i + 1)
    next lt =
        let e : from + (i + 1) ≡ suc (from + i) = omega arith in
        let d : to + (i + 1) ≡ suc (to + i) = omega arith in
        let c : slice (from + i) (from + n) r ≡ get_or r (from + i) 0 ∷ slice (suc (from + i)) (from + n) r
        = slice-cons (from + i) (from + n) r 0 (omega arith) h.source in
        record {
          source = h.source;
          room = h.room;
          same = length-set x (to + i) _ ∙ h.same;
          left = rw (e, d) (rw c at h.left);
        }
