-- All entries of the `senc` that is written, read: the words of IVs, subsample counts, clear and protected bytes. Assumes nothing.
use Prim.Native.Nat.{ℕ, zero, suc, ◌+◌, ◌*◌, ◌^◌, ◌<◌, ◌/◌, ◌≤◌}
use native.Mathlib.Omega.{arith}
use mathlib.Core.Path.{◌≡◌, refl, ap₂, ◌∙◌, ap}
use mathlib.Core.List.{List, ◌∷◌, ◌++◌, []}
use Rattle.laws.specs.Bytes.{be}
use Rattle.cmaf_read_tree.specs.Numbers.{u16, u32, u64}
use Rattle.field_set.specs.Lawful.{value_at, has}
use Rattle.cmaf_write_senc.specs.Protected.{iv_bytes, subsamples, senc_entries}
use Rattle.boxes.specs.Box.{flag_when}
use Rattle.cmaf_read_trun.specs.Samples.{each_from}
use Rattle.cmaf_read_shape.specs.Left.{Left}
use Rattle.cmaf_read_shape.proofs.LeftLaws.{left-on, left-number}
use Rattle.rebuilt.proofs.SencBack.{Written, pairs_is, left-pairs, all_are}
use Rattle.rebuilt.proofs.SencValues.{values_from, pairs_of, pairs_from}
use native.Mathlib.Nat.{zero-mul, suc-mul}
use mathlib.Core.Bool.{Bool, true}
use Rattle.track.specs.declared.Track.{Track}
use Rattle.cmaf_read_senc.specs.declared.entries.Entries.{Entries}
use Rattle.cmaf_read_senc.specs.Entries.{pairs_at}
use Rattle.cmaf_read_set.specs.Entries.{iv_words, clear_bytes, protected_bytes, all_from, all_ivs, all_counts, all_clear, all_protected}

module _ (c : List ℕ) (end at : ℕ) (w ys : List ℕ) where
  -- the words of an IV
  pub iv-read : (k q i : ℕ) → ((j : ℕ) → j < i + k → value_at 9 j w < 2 ^ 64) → Left c (at + 8 * q) end (iv_bytes w k i ++ ys)
      → each_from (λ n. u64 c (at + 8 * n)) k q ≡ values_from 9 w k i
  unfolding each_from values_from iv_bytes be
  iv-read zero q i small h = refl
  iv-read (suc k) q i small h =
      ap₂ (λ (v : ℕ) (vs : List ℕ). v ∷ vs) (left-number 8 (value_at 9 i w) _ (small i (omega arith)) h)
      (iv-read k (suc q) (suc i) (λ j lt. small j (omega arith)) (left-on 8 (value_at 9 i w) (iv_bytes w k (suc i) ++ ys) (omega arith) h))

  -- clear and protected bytes of k subsamples
  pub pairs-read : (k q j : ℕ) → ((i : ℕ) → i < j + k → (value_at 13 i w < 2 ^ 16) × (value_at 15 i w < 2 ^ 32))
      → Left c (at + 6 * q) end (subsamples w k j ++ ys)
      → (each_from (λ n. u16 c (at + 6 * n)) k q ≡ values_from 13 w k j) × (each_from (λ n. u32 c (at + 6 * n + 2)) k q ≡ values_from 15 w k j)
  unfolding each_from values_from subsamples be
  pairs-read zero q j small h = (refl, refl)
  pairs-read (suc k) q j small h =
      let more : List ℕ = subsamples w k (suc j) ++ ys in
      let l : Left c (at + 6 * q + 2) end (be 4 (value_at 15 j w) ++ more) = left-on 2 (value_at 13 j w) (be 4 (value_at 15 j w) ++ more) refl h in
      let b = small j (omega arith) in
      let r = pairs-read k (suc q) (suc j) (λ i lt. small i (omega arith)) (left-on 4 (value_at 15 j w) more (omega arith) l) in (
        ap₂ (λ (v : ℕ) (vs : List ℕ). v ∷ vs) (left-number 2 (value_at 13 j w) (be 4 (value_at 15 j w) ++ more) b.0 h) r.0,
        ap₂ (λ (v : ℕ) (vs : List ℕ). v ∷ vs) (left-number 4 (value_at 15 j w) more b.1 l) r.1,
      )

module _ {c : List ℕ} {end : ℕ} {t : Track} {w : List ℕ} {e : Entries} {n most at : ℕ} (r : Written c end t w e n most at) where
  -- id 9: m words of each sample
  abbrev m : ℕ
  m = t.iv_size / 8

  pub ivs-are : has 9 w ≡ true → ((j : ℕ) → j < n * m → value_at 9 j w < 2 ^ 64) → all_ivs c e n at ≡ values_from 9 w (n * m) 0
  unfolding iv_words senc_entries
  ivs-are stands small =
      all_are r (iv_words c (e.iv / 8)) 9 (n * m) (λ i. m) (λ k i. k * m) (λ i j. i * m)
      (λ i. zero-mul m) (λ k i. omega (arith, suc-mul k m)) (λ i j. suc-mul i m) one n 0 0 at (omega arith) (omega (arith, zero-mul m)) r.list
      ∙ ap (values_from 9 w (n * m)) (zero-mul m)
    where
      one : (k i j p : ℕ) → i < n → i * m + m ≤ n * m → Left c p end (senc_entries t w (suc k) i j)
          → each_from (λ q. u64 c (p + 8 * q)) (e.iv / 8) 0 ≡ values_from 9 w m (i * m)
      one k i j p lt top l =
          let a : p + 8 * 0 ≡ p = omega arith in
          rw r.iv-is (iv-read c end p w _ m 0 (i * m) (λ j' z. small j' (omega arith)) (rw (stands, ← a) at l))

  -- id 11: one of each sample
  pub counts-are : has 11 w ≡ true → all_counts c e n at ≡ values_from 11 w n 0
  unfolding values_from
  counts-are stands =
      all_are r (λ p. pairs_at c e p ∷ []) 11 n (λ i. 1) (λ k i. k) (λ i j. i)
      (λ i. refl) (λ k i. omega arith) (λ i j. omega arith)
      (λ k i j p lt b l. ap (λ (v : ℕ). v ∷ []) (pairs_is r k i j p l lt ∙ ap (λ (x : Bool). flag_when x (value_at 11 i w)) stands))
      n 0 0 at (omega arith) (omega arith) r.list

  -- ids 13 and 15: as many as it has subsamples
  module _ (stands : has 11 w ≡ true) (small : (i : ℕ) → i < most → (value_at 13 i w < 2 ^ 16) × (value_at 15 i w < 2 ^ 32)) where
    pub pairs-at : (k i j p : ℕ) → i < n → j + pairs_of w i ≤ most → Left c p end (senc_entries t w (suc k) i j)
        → (clear_bytes c (pairs_at c e p) (p + e.iv + 2) ≡ values_from 13 w (pairs_of w i) j)
        × (protected_bytes c (pairs_at c e p) (p + e.iv + 2) ≡ values_from 15 w (pairs_of w i) j)
    unfolding clear_bytes protected_bytes
    pairs-at k i j p lt b l =
        let a : p + e.iv + 2 + 6 * 0 ≡ p + e.iv + 2 = omega arith in
        let v : pairs_of w i ≡ value_at 11 i w = ap (λ (x : Bool). flag_when x (value_at 11 i w)) stands in
        let l₀ = left-pairs r k i j p l stands in
        rw (pairs_is r k i j p l lt, v) (pairs-read c end (p + e.iv + 2) w _ (value_at 11 i w) 0 j (λ i' z. small i' (omega arith)) (rw (← a) at l₀))

    -- one of the two
    both-are : (of : ℕ → List ℕ) (id : ℕ)
        → ((k i j p : ℕ) → i < n → j + pairs_of w i ≤ most → Left c p end (senc_entries t w (suc k) i j) → of p ≡ values_from id w (pairs_of w i) j)
        → all_from c e of n at ≡ values_from id w most 0
    unfolding pairs_from
    both-are of id each =
        let low : 0 + pairs_from w n 0 ≤ most = omega (arith, r.total) in
        all_are r of id most (pairs_of w) (pairs_from w) (λ i j. j)
        (λ i. refl) (λ k i. refl) (λ i j. refl) each n 0 0 at (omega arith) low r.list
        ∙ ap (λ (z : ℕ). values_from id w z 0) r.total

    pub clear-are : all_clear c e n at ≡ values_from 13 w most 0
    clear-are = both-are (λ p. clear_bytes c (pairs_at c e p) (p + e.iv + 2)) 13 (λ k i j p lt b l. (pairs-at k i j p lt b l).0)

    pub protected-are : all_protected c e n at ≡ values_from 15 w most 0
    protected-are = both-are (λ p. protected_bytes c (pairs_at c e p) (p + e.iv + 2)) 15 (λ k i j p lt b l. (pairs-at k i j p lt b l).1)
