-- The entries of the `senc` that is written, read one after another: whatever is read of each, it is values of the set in their order. Assumes nothing.
use Prim.Native.Nat.{ℕ, zero, suc, ◌+◌, ◌*◌, ◌/◌, ◌^◌, ◌≤◌, ◌<◌}
use native.Mathlib.Omega.{arith}
use mathlib.Core.Path.{◌≡◌, refl, sym, ◌∙◌, ap, ap₂, subst}
use mathlib.Core.Bool.{Bool, true, false, cond}
use mathlib.Core.List.{List, ◌++◌, append_assoc}
use lib.ListN.{length, length-append}
use Rattle.laws.specs.Bytes.{be}
use Rattle.laws.proofs.BytesLaws.{length-be}
use Rattle.track.specs.declared.Track.{Track}
use Rattle.field_set.specs.Lawful.{has, value_at}
use Rattle.cmaf_read_tree.specs.Numbers.{u16}
use Rattle.boxes.specs.Box.{when, flag_when}
use Rattle.cmaf_write_senc.specs.Protected.{iv_bytes, subsamples, senc_entries}
use Rattle.cmaf_write_senc.proofs.SencLaws.{iv-length, subsamples-length}
use Rattle.cmaf_read_senc.specs.declared.entries.Entries.{Entries}
use Rattle.cmaf_read_senc.specs.Entries.{map_length, pairs_at, length_at}
use Rattle.cmaf_read_set.specs.Entries.{all_from}
use Rattle.cmaf_read_shape.specs.Left.{Left}
use Rattle.rebuilt.proofs.SencValues.{values_from, values-append, pairs_of, pairs_from}
use Rattle.cmaf_read_shape.proofs.LeftLaws.{left-to, left-on, left-number}

-- the entries of n samples, with so many subsamples in all, stand from a place on, and are cut as they were written
pub record Written (c : List ℕ) (end : ℕ) (t : Track) (w : List ℕ) (e : Entries) (n most at : ℕ) : Type 0 where
  pub map_is : e.map ≡ has 11 w
  pub iv-is : e.iv ≡ t.iv_size
  pub no-ivs : has 9 w ≡ false → t.iv_size ≡ 0
  pub eights : 8 * (t.iv_size / 8) ≡ t.iv_size
  pub counts : has 11 w ≡ true → (i : ℕ) → i < n → value_at 11 i w < 2 ^ 16
  pub list : Left c at end (senc_entries t w n 0 0)
  pub total : pairs_from w n 0 ≡ most

module _ {c : List ℕ} {end : ℕ} {t : Track} {w : List ℕ} {e : Entries} {n most start : ℕ} (r : Written c end t w e n most start) where
  -- ---- one entry

  module _ (k i j at : ℕ) (h : Left c at end (senc_entries t w (suc k) i j)) where
    abbrev v : ℕ
    v = value_at 11 i w

    abbrev others : List ℕ
    others = senc_entries t w k (suc i) (j + pairs_of w i)

    -- behind its IV, which has the length that the reader goes by
    pub after-iv : Left c (at + e.iv) end (when (has 11 w) (be 2 v ++ subsamples w v j) ++ others)
    unfolding senc_entries
    after-iv = left-to (when (has 9 w) (iv_bytes w (t.iv_size / 8) (i * (t.iv_size / 8)))) _ (ap (λ (n : ℕ). at + n) (by (has 9 w) refl)) h
      where
        by : (b : Bool) → has 9 w ≡ b → length (when b (iv_bytes w (t.iv_size / 8) (i * (t.iv_size / 8)))) ≡ e.iv
        by true q = iv-length w (t.iv_size / 8) (i * (t.iv_size / 8)) ∙ r.eights ∙ sym r.iv-is
        by false q = sym (r.iv-is ∙ r.no-ivs q)

    -- its count of subsamples, and behind that where it stands
    left-count : has 11 w ≡ true → Left c (at + e.iv) end (be 2 v ++ (subsamples w v j ++ others))
    left-count q =
        rw append_assoc at (subst (λ (b : Bool). Left c (at + e.iv) end (when b (be 2 v ++ subsamples w v j) ++ others)) q after-iv)

    pub left-pairs : has 11 w ≡ true → Left c (at + e.iv + 2) end (subsamples w v j ++ others)
    left-pairs q = left-on 2 v (subsamples w v j ++ others) refl (left-count q)

    module _ (lt : i < n) where
      pub pairs_is : pairs_at c e at ≡ pairs_of w i
      unfolding pairs_at
      pairs_is = rw r.map_is (by (has 11 w) refl)
        where
          by : (b : Bool) → has 11 w ≡ b → cond b (u16 c (at + e.iv)) 0 ≡ flag_when b v
          by true q = left-number 2 v _ (r.counts q i lt) (left-count q)
          by false q = refl

      -- the next one
      pub left-next : Left c (at + length_at c e at) end others
      unfolding map_length
      left-next =
          rw (pairs_is, r.map_is) (left-to (when (has 11 w) (be 2 v ++ subsamples w v j)) others (omega (arith, long (has 11 w))) after-iv)
        where
          long : (b : Bool) → length (when b (be 2 v ++ subsamples w v j)) ≡ cond b (2 + 6 * flag_when b v) 0
          long true = simp length-append (omega (arith, length-be 2 v, subsamples-length w v j))
          long false = refl

  -- ---- all of them

  -- what is read of an entry is so many values of a field, of which the first has a number that grows by as many
  module _ (of : ℕ → List ℕ) (id room : ℕ) (few : ℕ → ℕ) (count first : ℕ → ℕ → ℕ) (none : (i : ℕ) → count 0 i ≡ 0)
      (more : (k i : ℕ) → count (suc k) i ≡ few i + count k (suc i)) (grows : (i j : ℕ) → first (suc i) (j + pairs_of w i) ≡ first i j + few i)
      (each : (k i j at : ℕ) → i < n → first i j + few i ≤ room → Left c at end (senc_entries t w (suc k) i j)
      → of at ≡ values_from id w (few i) (first i j)) where
    pub all_are : (k i j at : ℕ) → i + k ≡ n → first i j + count k i ≤ room → Left c at end (senc_entries t w k i j)
        → all_from c e of k at ≡ values_from id w (count k i) (first i j)
    unfolding all_from values_from
    all_are zero i j at q b h = rw (none i)
    all_are (suc k) i j at q b h =
        let g = grows i j in
        let m = more k i in
        ap₂ (λ (x y : List ℕ). x ++ y) (each k i j at (omega arith) (omega arith) h)
        (all_are k (suc i) (j + pairs_of w i) (at + length_at c e at) (omega arith) (omega arith) (left-next k i j at h (omega arith))
        ∙ ap (values_from id w (count k (suc i))) g)
        ∙ values-append id w (few i) (count k (suc i)) (first i j)
        ∙ ap (λ (z : ℕ). values_from id w z (first i j)) (sym m)
