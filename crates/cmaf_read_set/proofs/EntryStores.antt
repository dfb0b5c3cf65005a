-- What the entries of a `senc` store, one after another, by field: four runs, or one where they have no subsamples. Assumes nothing.
use Prim.Native.Nat.{ℕ, zero, suc, ◌+◌, ◌*◌, ◌/◌, ◌≤◌, ◌<◌}
use native.Mathlib.Nat.{mul-suc, mul-add, mul-le-mul_right}
use native.Mathlib.Omega.{arith}
use mathlib.Core.Path.{◌≡◌, refl, sym, ◌∙◌, ap}
use mathlib.Core.Bool.{Bool, true, false, cond}
use mathlib.Core.List.{List, [], ◌∷◌}
use lib.ListN.{length, set, length-set, length-append}
use lib.Seq.{sets, length-sets}
use Rattle.constants.specs.Maxima.{samples_most, subsamples_most}
use Rattle.field_table.specs.Lines.{ivs_at, subsamples_at, clear_at, protected_at}
use Rattle.field_table.specs.Lines.{set_len}
use Rattle.cmaf_read_senc.specs.declared.entries.Entries.{Entries}
use Rattle.cmaf_read_senc.specs.Entries.{pairs_at, length_at, map_length}
use Rattle.cmaf_read_senc.proofs.EntryLaws.{map-yes}
use Rattle.cmaf_read_set.specs.Entries.{iv_words, clear_bytes, protected_bytes, all_from, all_ivs, all_counts, all_clear, all_protected}
use Rattle.cmaf_read_set.specs.Stored.{stored_entry, stored_entries}
use Rattle.cmaf_read_set.proofs.EntryLengths.{iv-length, clear-length, protected-length, ivs-length, counts-length}
use Rattle.cmaf_read_set.proofs.StoreTwice.{meet, four, four-more}

-- ---- the words of the IVs have room

module _ {v : ℕ} (h : v ≤ 16) where
  words-few : v / 8 ≤ 2
  words-few = omega arith

  pub words-room : {i : ℕ} → i ≤ samples_most → v / 8 * i ≤ 128
  words-room {i} g = omega (arith, mul-le-mul_right i words-few)

  pub words-fit : {i : ℕ} → i < samples_most → v / 8 * i ≤ 128
  words-fit g = words-room (omega arith)

-- ---- one entry

module _ (c : List ℕ) (e : Entries) (at i j : ℕ) where
  -- its words in the set, of an IV, a count, and so many subsamples
  abbrev ivs : List ℕ
  ivs = iv_words c (e.iv / 8) at

  abbrev clear : ℕ → List ℕ
  clear k = clear_bytes c k (at + e.iv + 2)

  abbrev protect : ℕ → List ℕ
  protect k = protected_bytes c k (at + e.iv + 2)

  abbrev spot : ℕ
  spot = ivs_at + 1 + e.iv / 8 * i

  -- all four, with so many subsamples
  abbrev whole : List ℕ → ℕ → List ℕ
  whole x k = four x spot ivs (subsamples_at + 1 + i) (k ∷ []) (clear_at + 1 + j) (clear k) (protected_at + 1 + j) (protect k)

  entry-map : (x : List ℕ) → e.map ≡ true → stored_entry c e at i j x ≡ whole x (pairs_at c e at)
  unfolding stored_entry
  entry-map x m = ap (λ (t : Bool). cond t (whole x (pairs_at c e at)) (sets x spot ivs)) m

  entry-plain : (x : List ℕ) → e.map ≡ false → stored_entry c e at i j x ≡ sets x spot ivs
  unfolding stored_entry
  entry-plain x m = ap (λ (t : Bool). cond t (whole x (pairs_at c e at)) (sets x spot ivs)) m

  -- by what the code has stored, with subsamples and without
  pub entry-with : (x x₁ x₂ : List ℕ) (k : ℕ) → e.map ≡ true → k ≡ pairs_at c e at → x₁ ≡ sets x spot ivs
      → x₂ ≡ sets (sets (set x₁ (subsamples_at + 1 + i) k) (clear_at + 1 + j) (clear k)) (protected_at + 1 + j) (protect k) → x₂ ≡ stored_entry c e at i j x
  entry-with x x₁ x₂ k m q p r =
      r
      ∙ ap (λ (y : List ℕ). sets (sets (set y (subsamples_at + 1 + i) k) (clear_at + 1 + j) (clear k)) (protected_at + 1 + j) (protect k)) p
      ∙ ap (whole x) q
      ∙ sym (entry-map x m)

  pub entry-without : (x x₁ : List ℕ) → e.map ≡ false → x₁ ≡ sets x spot ivs → x₁ ≡ stored_entry c e at i j x
  entry-without x x₁ m p = p ∙ sym (entry-plain x m)

  pub entry_length : (x : List ℕ) → length (stored_entry c e at i j x) ≡ length x
  entry_length x = by e.map refl
    where
      by : (t : Bool) → e.map ≡ t → length (stored_entry c e at i j x) ≡ length x
      by true m =
          let n : ℕ = pairs_at c e at in
          let x₁ : List ℕ = sets x spot ivs in
          let x₂ : List ℕ = set x₁ (subsamples_at + 1 + i) n in
          ap length (entry-map x m)
          ∙ length-sets (sets x₂ (clear_at + 1 + j) (clear n)) (protected_at + 1 + j) (protect n)
          ∙ length-sets x₂ (clear_at + 1 + j) (clear n)
          ∙ length-set x₁ (subsamples_at + 1 + i) n
          ∙ length-sets x spot ivs
      by false m = ap length (entry-plain x m) ∙ length-sets x spot ivs

  -- a set is as long as it was, after the IV and the count
  pub long-still : (x x₁ : List ℕ) (k : ℕ) → x₁ ≡ sets x spot ivs → length x ≡ set_len → length (set x₁ (subsamples_at + 1 + i) k) ≡ set_len
  long-still x x₁ k h l = length-set x₁ (subsamples_at + 1 + i) k ∙ ap length h ∙ length-sets x spot ivs ∙ l

-- what a call of `put_iv` asks, and one of `put_pairs`
pub iv-asked : (c : List ℕ) (e : Entries) (at i : ℕ) (x : List ℕ) → at + length_at c e at ≤ length c → i < samples_most → e.iv ≤ 16 → length x ≡ set_len
    → (at + 8 * (e.iv / 8) ≤ length c) × (ivs_at + 1 + e.iv / 8 * i + e.iv / 8 ≤ length x) × (e.iv / 8 ≤ 32)
iv-asked c e at i x h l v s =
    let z : e.iv / 8 * suc i ≡ e.iv / 8 * i + e.iv / 8 = mul-suc (e.iv / 8) i in
    let r : e.iv / 8 * suc i ≤ 128 = words-room v (omega arith) in
    (omega arith, omega (arith, z, r, s), omega arith)

pub pairs-asked : (c : List ℕ) (e : Entries) (at k : ℕ) → e.map ≡ true → k ≡ pairs_at c e at → at + length_at c e at ≤ length c
    → at + e.iv + 2 + 6 * k ≤ length c
pairs-asked c e at k m q h =
    let z : map_length e (pairs_at c e at) ≡ 2 + 6 * pairs_at c e at = map-yes e (pairs_at c e at) m in
    omega (arith, z, q, h)

-- ---- all entries

module _ (c : List ℕ) (e : Entries) where
  clear-more : (k at : ℕ) → length (all_clear c e (suc k) at) ≡ pairs_at c e at + length (all_clear c e k (at + length_at c e at))
  unfolding all_from
  clear-more k at =
      length-append (clear_bytes c (pairs_at c e at) (at + e.iv + 2)) (all_clear c e k (at + length_at c e at))
      ∙ ap (λ (n : ℕ). n + length (all_clear c e k (at + length_at c e at))) (clear-length c (pairs_at c e at) (at + e.iv + 2))

  -- with subsamples: each field is one run
  pub stored-map : e.map ≡ true → e.iv ≤ 16 → (k at i j : ℕ) (x : List ℕ) → i + k ≤ samples_most → j + length (all_clear c e k at) ≤ subsamples_most
      → stored_entries c e k at i j x
      ≡ four x (ivs_at + 1 + e.iv / 8 * i) (all_ivs c e k at) (subsamples_at + 1 + i) (all_counts c e k at) (clear_at + 1 + j) (all_clear c e k at) (protected_at + 1 + j) (all_protected c e k at)
  unfolding stored_entries all_from
  stored-map m v zero at i j x h g = refl
  stored-map m v (suc k) at i j x h g =
      let n : ℕ = pairs_at c e at in
      let to : ℕ = at + length_at c e at in
      let lc : length (clear_bytes c n (at + e.iv + 2)) ≡ n = clear-length c n (at + e.iv + 2) in
      let lp : length (protected_bytes c n (at + e.iv + 2)) ≡ n = protected-length c n (at + e.iv + 2) in
      let li : length (iv_words c (e.iv / 8) at) ≡ e.iv / 8 = iv-length c (e.iv / 8) at in
      let zi : e.iv / 8 * suc i ≡ e.iv / 8 * i + e.iv / 8 = mul-suc (e.iv / 8) i in
      let zk : e.iv / 8 * (suc i + k) ≡ e.iv / 8 * suc i + e.iv / 8 * k = mul-add (e.iv / 8) (suc i) k in
      let room : e.iv / 8 * (suc i + k) ≤ 128 = words-room v (omega arith) in
      stored-map m v k to (suc i) (j + n) (stored_entry c e at i j x) (omega arith) (omega (arith, g, clear-more k at))
      ∙ ap
      (λ (y : List ℕ).
      four y (ivs_at + 1 + e.iv / 8 * suc i) (all_ivs c e k to) (subsamples_at + 1 + suc i) (all_counts c e k to) (clear_at + 1 + (j + n)) (all_clear c e k to) (protected_at + 1 + (j + n))
      (all_protected c e k to))
      (entry-map c e at i j x m)
      ∙ four-more x (ivs_at + 1 + e.iv / 8 * i) (subsamples_at + 1 + i) (clear_at + 1 + j) (protected_at + 1 + j) (iv_words c (e.iv / 8) at) (n ∷ []) (clear_bytes c n (at + e.iv + 2))
      (protected_bytes c n (at + e.iv + 2)) (ivs_at + 1 + e.iv / 8 * suc i) (subsamples_at + 1 + suc i) (clear_at + 1 + (j + n)) (protected_at + 1 + (j + n)) (all_ivs c e k to)
      (all_counts c e k to) (all_clear c e k to) (all_protected c e k to) (omega (arith, zi, li)) (omega arith) (omega (arith, lc)) (omega (arith, lp))
      (omega (arith, zk, ivs-length c e k to, room)) (omega (arith, counts-length c e k to)) (omega (arith, g, clear-more k at))

  -- without: the IVs alone
  pub stored-plain : e.map ≡ false → (k at i j : ℕ) (x : List ℕ) → stored_entries c e k at i j x ≡ sets x (ivs_at + 1 + e.iv / 8 * i) (all_ivs c e k at)
  unfolding stored_entries all_from
  stored-plain m zero at i j x = refl
  stored-plain m (suc k) at i j x =
      let to : ℕ = at + length_at c e at in
      let zi : e.iv / 8 * suc i ≡ e.iv / 8 * i + e.iv / 8 = mul-suc (e.iv / 8) i in
      let li : length (iv_words c (e.iv / 8) at) ≡ e.iv / 8 = iv-length c (e.iv / 8) at in
      stored-plain m k to (suc i) (j + pairs_at c e at) (stored_entry c e at i j x)
      ∙ ap (λ (y : List ℕ). sets y (ivs_at + 1 + e.iv / 8 * suc i) (all_ivs c e k to)) (entry-plain c e at i j x m)
      ∙ meet x (ivs_at + 1 + e.iv / 8 * i) (iv_words c (e.iv / 8) at) (ivs_at + 1 + e.iv / 8 * suc i) (all_ivs c e k to) (omega (arith, zi, li))
