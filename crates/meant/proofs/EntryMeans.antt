-- An entry of a `senc` is what the fields 9, 11, 13 and 15 of the set say of its sample. Assumes nothing.
use Prim.Native.Nat.{ℕ, zero, suc, ◌+◌, ◌*◌, ◌/◌, ◌≤◌}
use native.Mathlib.Omega.{arith}
use mathlib.Core.Path.{◌≡◌, refl, sym, ◌∙◌, ap, ap₂}
use mathlib.Core.Bool.{Bool, true, false, cond, not, ◌&&◌, ◌||◌}
use mathlib.Core.List.{List, ◌∷◌, ◌++◌}
use borrow.Author.Tests.{eqb-true, eqb-false, not-false}
use lib.Dec.{eqb}
use lib.ListN.{length}
use lib.Seq.{slice}
use Rattle.std.specs.Prelude.{Some, None}
use Rattle.laws.specs.Bytes.{be}
use Rattle.laws.specs.Tests.{all_le}
use Rattle.laws.proofs.BytesLaws.{be-slice}
use Rattle.laws.proofs.SliceLaws.{slice-none, slice-join}
use Rattle.cmaf_read_tree.specs.Numbers.{u16, u32, u64}
use Rattle.track.specs.declared.Track.{Track}
use Rattle.track.proofs.IvLaws.{iv-eights}
use Rattle.field_set.specs.Lawful.{has, value_at}
use Rattle.boxes.specs.Box.{when}
use Rattle.cmaf_write_senc.specs.Protected.{iv_bytes}
use Rattle.cmaf_read_trun.specs.Samples.{each_from}
use Rattle.field_rules.proofs.StandLaws.{Stand, stand-first, stand-next}
use Rattle.cmaf_read_senc.specs.declared.entries.Entries.{Entries}
use Rattle.cmaf_read_senc.specs.Entries.{pairs_at}
use Rattle.cmaf_read_senc.proofs.EntryLaws.{left-whole}
use Rattle.cmaf_read_senc.proofs.SencLaws.{entries-iv}
use Rattle.cmaf_read_set.specs.Entries.{iv_words, clear_bytes, protected_bytes}
use Rattle.cmaf_read_set.specs.Set.{entries, chunk_set}
use Rattle.cmaf_read_chunk.specs.Accepted.{inner}
use Rattle.cmaf_read_chunk.proofs.ChunkFacts.{Facts}
use Rattle.meaning.specs.Meaning.{pairs_from, entry_at, protection_at}
use Rattle.cmaf_read_facts.proofs.SencWalk.{Walk, protection, count-is, ivs-here, clear-here, protected-here}
use Rattle.meant.specs.BySet.{pairs_by, entry_by}

-- k subsamples of those from a place on, the first with the number q of them and j of the set
pairs-are : (c w : List ℕ) (at k j q : ℕ) → Stand 13 w j (each_from (λ x. u16 c (at + 6 * x)) k q)
    → Stand 15 w j (each_from (λ x. u32 c (at + 6 * x + 2)) k q) → pairs_from c k (at + 6 * q) ≡ pairs_by w k j
unfolding pairs_from pairs_by each_from
pairs-are c w at zero j q a b = refl
pairs-are c w at (suc k) j q a b =
    let n : at + 6 * q + 6 ≡ at + 6 * suc q = omega arith in
    let r : pairs_from c k (at + 6 * q + 6) ≡ pairs_by w k (suc j) = rw n (pairs-are c w at k (suc j) (suc q) (stand-next a) (stand-next b)) in
    λ i. record { clear = sym (stand-first a) i; protected = sym (stand-first b) i } ∷ r i

-- k words of those of an IV at a place, the first with the number q of them and i of the set
words_are : (c w : List ℕ) → all_le 255 c ≡ true → (at k i q : ℕ) → at + 8 * (q + k) ≤ length c → Stand 9 w i (each_from (λ x. u64 c (at + 8 * x)) k q)
    → slice (at + 8 * q) (at + 8 * (q + k)) c ≡ iv_bytes w k i
unfolding iv_bytes each_from
words_are c w low at zero i q h s = slice-none (at + 8 * q) (at + 8 * (q + 0)) c (omega arith)
words_are c w low at (suc k) i q h s =
    let p : ℕ = at + 8 * q in
    let n : p + 8 ≡ at + 8 * suc q = omega arith in
    let m : q + suc k ≡ suc q + k = omega arith in
    slice-join p (p + 8) (at + 8 * (q + suc k)) c (omega arith) (omega arith) h
    ∙ ap₂ (λ (x y : List ℕ). x ++ y) (sym (be-slice c low 8 p (omega arith)) ∙ ap (be 8) (sym (stand-first s)))
    (rw (n, m) (words_are c w low at k (suc i) (suc q) (omega arith) (stand-next s)))

module _ (t : Track) (c : List ℕ) (a : Facts t c) where
  abbrev w : List ℕ
  w = chunk_set t c (inner c)

  abbrev e : Entries
  e = entries t c (inner c)

  -- an IV has whole words
  eights : 8 * (e.iv / 8) ≡ e.iv
  eights =
      let q : e.iv ≡ t.iv_size = entries-iv t c (inner c).senc in
      ap (λ (x : ℕ). 8 * (x / 8)) q ∙ iv-eights t.protection t.iv_size a.iv ∙ sym q

  -- whether the fields stand, by whether a `senc` does
  pub ivs-stand : {b : Bool} → eqb (inner c).senc.len 0 ≡ b → has 9 w ≡ (not b && not (eqb e.iv 0))
  ivs-stand z = a.said.ivs.stands ∙ ap (λ (x : Bool). not x && not (eqb e.iv 0)) z

  map-stands : {b : Bool} → eqb (inner c).senc.len 0 ≡ b → has 11 w ≡ (not b && e.map)
  map-stands z = a.said.counts.stands ∙ ap (λ (x : Bool). not x && e.map) z

  module _ {k i j at : ℕ} (g : Walk t c (suc k) i j at) where
    -- one stands: the entry, its IV first and then its subsamples
    module _ (there : eqb (inner c).senc.len 0 ≡ false) where
      iv-is : slice at (at + e.iv) c ≡ when (has 9 w) (iv_bytes w (e.iv / 8) (i * (e.iv / 8)))
      unfolding iv_words
      iv-is = by (has 9 w) refl
        where
          by : (b : Bool) → has 9 w ≡ b → slice at (at + e.iv) c ≡ when b (iv_bytes w (e.iv / 8) (i * (e.iv / 8)))
          by true h =
              let m : ℕ = e.iv / 8 in
              let z : at + 8 * 0 ≡ at = omega arith in
              let n : at + 8 * (0 + m) ≡ at + e.iv = omega (arith, eights) in
              let l : at + 8 * (0 + m) ≤ length c = omega (arith, left-whole (omega arith) (g.left h)) in
              ap₂ (λ (x y : ℕ). slice x y c) (sym z) (sym n) ∙ words_are c w a.bytes at m (i * m) 0 l (ivs-here t c g h)
          by false h =
              let z : e.iv ≡ 0 = eqb-true e.iv 0 (not-false _ (sym (ivs-stand there) ∙ h)) in
              slice-none at (at + e.iv) c (omega arith)

      map_is : cond e.map (Some (pairs_from c (pairs_at c e at) (at + e.iv + 2))) None ≡ cond (has 11 w) (Some (pairs_by w (value_at 11 i w) j)) None
      unfolding clear_bytes protected_bytes
      map_is = ap (λ (b : Bool). cond b (Some (pairs_from c (pairs_at c e at) (at + e.iv + 2))) None) (sym (map-stands there)) ∙ by (has 11 w) refl
        where
          by : (b : Bool) → has 11 w ≡ b
              → cond b (Some (pairs_from c (pairs_at c e at) (at + e.iv + 2))) None ≡ cond b (Some (pairs_by w (value_at 11 i w) j)) None
          by true h =
              let p : ℕ = at + e.iv + 2 in
              let z : p ≡ p + 6 * 0 = omega arith in
              ap Some
              (ap (pairs_from c (pairs_at c e at)) z
              ∙ pairs-are c w p (pairs_at c e at) j 0 (clear-here t c g h) (protected-here t c g h)
              ∙ ap (λ (x : ℕ). pairs_by w x j) (sym (count-is t c g h)))
          by false h = refl

      entry-is : entry_at c e at ≡ entry_by w t.iv_size i j
      unfolding entry_at entry_by
      entry-is = (λ x. record { iv = iv-is x; map = map_is x }) ∙ ap (λ (n : ℕ). entry_by w n i j) (entries-iv t c (inner c).senc)

      some-stands : (has 9 w || has 11 w) ≡ true
      some-stands =
          let z : (inner c).senc.len ≡ 0 → ⊥ = eqb-false _ _ there in
          ap₂ (λ (x y : Bool). x || y) (ivs-stand there) (map-stands there) ∙ (protection t c a (omega arith)).counts.some

    -- whether or not one does
    pub protection-means : protection_at t c (inner c) at ≡ cond (has 9 w || has 11 w) (Some (entry_by w t.iv_size i j)) None
    unfolding protection_at
    protection-means = by (eqb (inner c).senc.len 0) refl
      where
        by : (b : Bool) → eqb (inner c).senc.len 0 ≡ b
            → cond b None (Some (entry_at c e at)) ≡ cond (has 9 w || has 11 w) (Some (entry_by w t.iv_size i j)) None
        by true z = sym (ap₂ (λ (x y : Bool). cond (x || y) (Some (entry_by w t.iv_size i j)) None) (ivs-stand z) (map-stands z))
        by false z = ap Some (entry-is z) ∙ sym (ap (λ (x : Bool). cond x (Some (entry_by w t.iv_size i j)) None) (some-stands z))
