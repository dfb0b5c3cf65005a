-- The loops of `put_iv` and `put_pairs`: what is left to store gives the whole. Assumes nothing.
use Prim.Native.Nat.{ℕ, suc, ◌+◌, ◌-◌, ◌*◌, ◌≤◌, ◌<◌}
use native.Mathlib.Nat.{add-zero, sub-zero}
use native.Mathlib.Omega.{arith}
use mathlib.Core.Path.{◌≡◌, refl, sym, ◌∙◌, ap}
use mathlib.Core.List.{List, ◌∷◌}
use lib.ListN.{length, set, length-set}
use lib.Seq.{sets}
use Rattle.constants.specs.Maxima.{subsamples_most}
use Rattle.field_table.specs.Lines.{ivs_at, clear_at, protected_at}
use Rattle.cmaf_read_tree.specs.Numbers.{u16, u32, u64}
use Rattle.field_table.specs.Lines.{set_len}
use Rattle.cmaf_read_trun.specs.Samples.{each_from}
use Rattle.cmaf_read_set.specs.Entries.{iv_words, clear_bytes, protected_bytes}
use Rattle.cmaf_read_trun.proofs.EachLaws.{each-length, each_none}
use Rattle.cmaf_read_set.proofs.StoreTwice.{set_past}

-- the next of those that are left
each_on : (f : ℕ → ℕ) (k j : ℕ) → j < k → each_from f (k - j) j ≡ f j ∷ each_from f (k - (j + 1)) (j + 1)
unfolding each_from
each_on f k j h =
    let e : k - j ≡ suc (k - (j + 1)) = omega arith in
    let z : j + 1 ≡ suc j = omega arith in
    rw (e, z)

-- j of k words of an IV are stored
pub record StoringIv (c : List ℕ) (at k : ℕ) (x₀ : List ℕ) (i : ℕ) (x : List ℕ) (j : ℕ) : Type 0 where
  pub source : at + 8 * k ≤ length c
  pub room : ivs_at + 1 + i + k ≤ length x₀
  pub small : k ≤ 32
  pub same : length x ≡ length x₀
  pub left : sets x (ivs_at + 1 + i + j) (each_from (λ n. u64 c (at + 8 * n)) (k - j) j) ≡ sets x₀ (ivs_at + 1 + i) (iv_words c k at)

module _ (c : List ℕ) (at k : ℕ) (x₀ : List ℕ) (i : ℕ) where
  pub iv-start : (at + 8 * k ≤ length c) × (ivs_at + 1 + i + k ≤ length x₀) × (k ≤ 32) → StoringIv c at k x₀ i x₀ 0
  unfolding iv_words
  iv-start h = record { source = h.0; room = h.1; small = h.2; same = refl; left = rw (add-zero, sub-zero) }

  module _ (x : List ℕ) (j : ℕ) (h : StoringIv c at k x₀ i x j) where
    pub iv-end : k ≤ j → x ≡ sets x₀ (ivs_at + 1 + i) (iv_words c k at)
    iv-end le = rw (each_none (λ n. u64 c (at + 8 * n)) k j le) at h.left

    pub iv-next : j < k → StoringIv c at k x₀ i (set x (ivs_at + 1 + i + j) (u64 c (at + 8 * j))) (j + 1)
    iv-next lt =
        let e : ivs_at + 1 + i + (j + 1) ≡ suc (ivs_at + 1 + i + j) = omega arith in
        record {
          source = h.source;
          room = h.room;
          small = h.small;
          same = length-set x (ivs_at + 1 + i + j) _ ∙ h.same;
          left = rw e (rw (each_on (λ n. u64 c (at + 8 * n)) k j lt) at h.left);
        }

-- j of k subsamples are stored
pub record StoringPairs (c : List ℕ) (at k : ℕ) (x₀ : List ℕ) (i : ℕ) (x : List ℕ) (j : ℕ) : Type 0 where
  pub source : at + 6 * k ≤ length c
  pub room : i + k ≤ subsamples_most
  pub long : length x₀ ≡ set_len
  pub same : length x ≡ length x₀
  pub left :
      sets (sets x (clear_at + 1 + i + j) (each_from (λ n. u16 c (at + 6 * n)) (k - j) j)) (protected_at + 1 + i + j) (each_from (λ n. u32 c (at + 6 * n + 2)) (k - j) j)
      ≡ sets (sets x₀ (clear_at + 1 + i) (clear_bytes c k at)) (protected_at + 1 + i) (protected_bytes c k at)

module _ (c : List ℕ) (at k : ℕ) (x₀ : List ℕ) (i : ℕ) where
  pub pairs_start : (at + 6 * k ≤ length c) × (i + k ≤ subsamples_most) × (length x₀ ≡ set_len) → StoringPairs c at k x₀ i x₀ 0
  unfolding clear_bytes protected_bytes
  pairs_start h = record { source = h.0; room = h.1; long = h.2; same = refl; left = rw (add-zero (clear_at + 1 + i), add-zero (protected_at + 1 + i), sub-zero k) }

  module _ (x : List ℕ) (j : ℕ) (h : StoringPairs c at k x₀ i x j) where
    pub pairs_end : k ≤ j → x ≡ sets (sets x₀ (clear_at + 1 + i) (clear_bytes c k at)) (protected_at + 1 + i) (protected_bytes c k at)
    pairs_end le =
        rw (each_none (λ n. u16 c (at + 6 * n)) k j le, each_none (λ n. u32 c (at + 6 * n + 2)) k j le) at h.left

    module _ (lt : j < k) where
      pub pairs_next : StoringPairs c at k x₀ i (set (set x (clear_at + 1 + i + j) (u16 c (at + 6 * j))) (protected_at + 1 + i + j) (u32 c (at + 6 * j + 2))) (j + 1)
      pairs_next =
          let e : clear_at + 1 + i + (j + 1) ≡ suc (clear_at + 1 + i + j) = omega arith in
          let z : protected_at + 1 + i + (j + 1) ≡ suc (protected_at + 1 + i + j) = omega arith in
          let vs : List ℕ = each_from (λ n. u16 c (at + 6 * n)) (k - (j + 1)) (j + 1) in
          let y : List ℕ = set x (clear_at + 1 + i + j) (u16 c (at + 6 * j)) in
          let past : set (sets y (suc (clear_at + 1 + i + j)) vs) (protected_at + 1 + i + j) (u32 c (at + 6 * j + 2))
          ≡ sets (set y (protected_at + 1 + i + j) (u32 c (at + 6 * j + 2))) (suc (clear_at + 1 + i + j)) vs
          = set_past vs y (suc (clear_at + 1 + i + j)) (protected_at + 1 + i + j) _ (omega (arith, each-length (λ n. u16 c (at + 6 * n)) (k - (j + 1)) (j + 1), h.room)) in
          record {
            source = h.source;
            room = h.room;
            long = h.long;
            same = length-set y (protected_at + 1 + i + j) _ ∙ length-set x (clear_at + 1 + i + j) _ ∙ h.same;
            left =
                rw (e, z)
                (ap (λ (y : List ℕ). sets y (suc (protected_at + 1 + i + j)) (each_from (λ n. u32 c (at + 6 * n + 2)) (k - (j + 1)) (j + 1))) (sym past)
                ∙ rw (each_on (λ n. u16 c (at + 6 * n)) k j lt, each_on (λ n. u32 c (at + 6 * n + 2)) k j lt) at h.left);
          }
