-- How many numbers the entries of a `senc` say: words of IVs, counts of subsamples, and as many clear and protected bytes as these add up to.
-- Assumes nothing.
use Prim.Native.Nat.{ℕ, zero, suc, ◌+◌, ◌-◌, ◌*◌, ◌/◌, ◌≤◌, ◌<◌}
use native.Mathlib.Nat.{mul-one, suc-mul}
use native.Mathlib.Omega.{arith}
use mathlib.Core.Path.{◌≡◌, refl, sym, ◌∙◌}
use mathlib.Core.Bool.{true}
use mathlib.Core.List.{List}
use lib.ListN.{length, length-append}
use Rattle.laws.specs.Tests.{sum}
use Rattle.track.specs.declared.Track.{Track}
use Rattle.byte_parts.specs.declared.Part.{Part}
use Rattle.cmaf_read_shape.specs.Parts.{Inside}
use Rattle.cmaf_read_senc.specs.declared.entries.Entries.{Entries}
use Rattle.cmaf_read_senc.specs.Entries.{entries_of, pairs_at, length_at, senc_ok, subsamples}
use Rattle.cmaf_read_senc.proofs.EntryLaws.{Left, left-next, left-pairs, left-last}
use Rattle.cmaf_read_senc.proofs.SencLaws.{senc-left}
use Rattle.cmaf_read_set.specs.Entries.{iv_words, clear_bytes, protected_bytes, all_from, all_ivs, all_counts, all_clear, all_protected}
use Rattle.cmaf_read_trun.proofs.EachLaws.{each-length}

-- what stands for one entry
pub iv-length : (c : List ℕ) (k at : ℕ) → length (iv_words c k at) ≡ k
unfolding iv_words
iv-length c k at = each-length _ k 0

pub clear-length : (c : List ℕ) (k at : ℕ) → length (clear_bytes c k at) ≡ k
unfolding clear_bytes
clear-length c k at = each-length _ k 0

pub protected-length : (c : List ℕ) (k at : ℕ) → length (protected_bytes c k at) ≡ k
unfolding protected_bytes
protected-length c k at = each-length _ k 0

module _ (c : List ℕ) (e : Entries) where
  -- as much of each entry
  pub same_length : (of : ℕ → List ℕ) (n : ℕ) → ((p : ℕ) → length (of p) ≡ n) → (k at : ℕ) → length (all_from c e of k at) ≡ k * n
  unfolding all_from
  same_length of n h zero at = let z : 0 * n ≡ 0 = omega arith in sym z
  same_length of n h (suc k) at =
      let z : suc k * n ≡ k * n + n = suc-mul k n in
      omega (arith, z, length-append (of at) (all_from c e of k (at + length_at c e at)), h at, same_length of n h k (at + length_at c e at))

  -- as much of each entry as it has subsamples
  pub sum-length : (of : ℕ → List ℕ) → ((p : ℕ) → length (of p) ≡ pairs_at c e p) → (k at : ℕ)
      → length (all_from c e of k at) ≡ sum (all_counts c e k at)
  unfolding all_from sum
  sum-length of h zero at = refl
  sum-length of h (suc k) at =
      omega (arith, length-append (of at) (all_from c e of k (at + length_at c e at)), h at, sum-length of h k (at + length_at c e at))

  module _ (k at : ℕ) where
    pub ivs-length : length (all_ivs c e k at) ≡ k * (e.iv / 8)
    ivs-length = same_length _ (e.iv / 8) (λ p. iv-length c (e.iv / 8) p) k at

    pub counts-length : length (all_counts c e k at) ≡ k
    counts-length = same_length _ 1 (λ p. refl) k at ∙ mul-one k

    pub all-clear-length : length (all_clear c e k at) ≡ sum (all_counts c e k at)
    all-clear-length = sum-length _ (λ p. clear-length c (pairs_at c e p) _) k at

    pub all-protected-length : length (all_protected c e k at) ≡ sum (all_counts c e k at)
    all-protected-length = sum-length _ (λ p. protected-length c (pairs_at c e p) _) k at

  -- entries that fill a part: their counts add up to its subsamples
  pub counts-sum : (end k at s : ℕ) → Left c e end k at s → sum (all_counts c e k at) ≡ s
  unfolding all_from sum
  counts-sum end zero at s g = sym (left-last g).1
  counts-sum end (suc k) at s g =
      let z : suc k - 1 ≡ k = omega arith in
      let h : 0 < suc k = omega arith in
      let l : Left c e end k (at + length_at c e at) (s - pairs_at c e at) = rw z at (left-next h g) in
      omega (arith, counts-sum end k (at + length_at c e at) (s - pairs_at c e at) l, left-pairs h g)

-- those of a whole `senc`
pub senc-counts : (t : Track) (c : List ℕ) (b : Part) → Inside c b → 16 ≤ b.len → senc_ok t c b ≡ true
    → sum (all_counts c (entries_of t c b) (entries_of t c b).count (entries_of t c b).at) ≡ subsamples t c b
senc-counts t c b i h k = counts-sum c (entries_of t c b) _ _ _ _ (senc-left t c b i h k)
