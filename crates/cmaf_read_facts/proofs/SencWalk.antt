-- The entries of a `senc`, one after another, and the fields 9, 11, 13 and 15 of the set that was gathered of them: what is left of both. By this walk the
-- subsamples are added up, and the samples are given their meaning. Assumes nothing.
use Prim.Native.Nat.{ℕ, suc, ◌+◌, ◌-◌, ◌*◌, ◌/◌, ◌<◌}
use native.Mathlib.Nat.{suc-mul, zero-mul}
use native.Mathlib.Omega.{arith}
use mathlib.Core.Path.{◌≡◌, sym, ◌∙◌, subst}
use mathlib.Core.Bool.{true}
use mathlib.Core.List.{List, [], ◌∷◌}
use lib.ListN.{length}
use Rattle.track.specs.declared.Track.{Track}
use Rattle.cmaf_read_shape.specs.Parts.{end_of}
use Rattle.field_set.specs.Lawful.{has, value_at}
use Rattle.boxes.specs.Box.{flag_when}
use Rattle.field_rules.proofs.StandLaws.{Stand, stand-first}
use Rattle.cmaf_read_senc.specs.declared.entries.Entries.{Entries}
use Rattle.cmaf_read_senc.specs.Entries.{pairs_at, length_at, subsamples}
use Rattle.cmaf_read_senc.proofs.EntryLaws.{Left, left-next}
use Rattle.cmaf_read_senc.proofs.SencLaws.{senc-stands, senc-left}
use Rattle.cmaf_read_set.specs.Entries.{iv_words, clear_bytes, protected_bytes, all_from, all_ivs, all_counts, all_clear, all_protected}
use Rattle.cmaf_read_set.specs.Set.{run, entries, chunk_set}
use Rattle.cmaf_read_set.proofs.EntryLengths.{iv-length, clear-length, protected-length}
use Rattle.cmaf_read_set.proofs.FitLaws.{some_bytes}
use Rattle.cmaf_read_set.proofs.SetSays.{entry-stands, rest-stands}
use Rattle.cmaf_read_rules.proofs.RuleFacts.{ProtectionHolds, rules-protected, protection-holds}
use Rattle.cmaf_read_chunk.specs.Accepted.{top, inner}
use Rattle.cmaf_read_chunk.proofs.ChunkFacts.{Facts}

module _ (t : Track) (c : List ℕ) where
  abbrev w : List ℕ
  w = chunk_set t c (inner c)

  abbrev e : Entries
  e = entries t c (inner c)

  -- k entries are left from a place on, the first of them that of the sample i, whose first subsample has the number j: the fields say from there on
  -- what these entries say
  pub record Walk (k i j at : ℕ) : Type 0 where
    pub sum : ℕ
    pub left : has 9 w ≡ true → Left c e (end_of (inner c).senc) k at sum
    pub ivs : has 9 w ≡ true → Stand 9 w (i * (e.iv / 8)) (all_ivs c e k at)
    pub counts : has 11 w ≡ true → Stand 11 w i (all_counts c e k at)
    pub clear : has 11 w ≡ true → Stand 13 w j (all_clear c e k at)
    pub protected : has 11 w ≡ true → Stand 15 w j (all_protected c e k at)

  -- the rules on a `senc` that stands
  pub protection : Facts t c → 0 < (inner c).senc.len → ProtectionHolds t c (top c) (inner c)
  protection a s = protection-holds t c (top c) (inner c) (rules-protected t c (top c) (inner c) a.rules s)

  -- all entries
  pub walk_start : Facts t c → Walk (run t c (inner c)).count 0 0 e.at
  walk_start a =
      record {
        sum = subsamples t c (inner c).senc;
        left = λ h.
            subst (λ (k : ℕ). Left c e (end_of (inner c).senc) k e.at (subsamples t c (inner c).senc)) (counted (ivs-stand h))
            (senc-left t c (inner c).senc a.lie.senc-in (senc-stands t c (inner c).senc a.hold.senc-ok (ivs-stand h)) a.hold.senc-ok);
        ivs = λ h. rw zero-mul (each _ (counted (ivs-stand h)) (a.said.ivs.values h));
        counts = λ h. each _ (counted (map-stands h)) (a.said.counts.values h);
        clear = λ h. each _ (counted (map-stands h)) (a.said.clear.values (a.said.clear.stands ∙ sym a.said.counts.stands ∙ h));
        protected = λ h. each _ (counted (map-stands h)) (a.said.protected.values (a.said.protected.stands ∙ sym a.said.counts.stands ∙ h));
      }
    where
      ivs-stand : has 9 w ≡ true → 0 < (inner c).senc.len
      ivs-stand h = some_bytes _ _ (sym a.said.ivs.stands ∙ h)

      map-stands : has 11 w ≡ true → 0 < (inner c).senc.len
      map-stands h = some_bytes _ _ (sym a.said.counts.stands ∙ h)

      counted : 0 < (inner c).senc.len → e.count ≡ (run t c (inner c)).count
      counted s = (protection a s).counts.counted

      each : {id : ℕ} (of : ℕ → List ℕ) → e.count ≡ (run t c (inner c)).count → Stand id w 0 (all_from c e of e.count e.at)
          → Stand id w 0 (all_from c e of (run t c (inner c)).count e.at)
      each {id} of q s = subst (λ (k : ℕ). Stand id w 0 (all_from c e of k e.at)) q s

  -- the next of them
  module _ {k i j at : ℕ} (g : Walk (suc k) i j at) where
    -- how many subsamples it has
    pub count-is : has 11 w ≡ true → value_at 11 i w ≡ pairs_at c e at
    unfolding all_from
    count-is h = stand-first (g.counts h)

    -- its IV, and its subsamples
    pub ivs-here : has 9 w ≡ true → Stand 9 w (i * (e.iv / 8)) (iv_words c (e.iv / 8) at)
    ivs-here h = entry-stands c e (iv_words c (e.iv / 8)) k at (g.ivs h)

    pub clear-here : has 11 w ≡ true → Stand 13 w j (clear_bytes c (pairs_at c e at) (at + e.iv + 2))
    clear-here h = entry-stands c e (λ p. clear_bytes c (pairs_at c e p) (p + e.iv + 2)) k at (g.clear h)

    pub protected-here : has 11 w ≡ true → Stand 15 w j (protected_bytes c (pairs_at c e at) (at + e.iv + 2))
    protected-here h = entry-stands c e (λ p. protected_bytes c (pairs_at c e p) (p + e.iv + 2)) k at (g.protected h)

    -- and those behind it
    pub walk-next : Walk k (suc i) (j + flag_when (has 11 w) (value_at 11 i w)) (at + length_at c e at)
    walk-next =
        let z : suc k - 1 ≡ k = omega arith in
        let m : i * (e.iv / 8) + length (iv_words c (e.iv / 8) at) ≡ suc i * (e.iv / 8) = omega (arith, iv-length c (e.iv / 8) at, suc-mul i (e.iv / 8)) in
        record {
          sum = g.sum - pairs_at c e at;
          left = λ h. rw z at (left-next (omega arith) (g.left h));
          ivs = λ h. rest-stands c e (iv_words c (e.iv / 8)) k at (g.ivs h) m;
          counts = λ h. rest-stands c e (λ p. pairs_at c e p ∷ []) k at (g.counts h) (omega arith);
          clear = λ h.
              rest-stands c e (λ p. clear_bytes c (pairs_at c e p) (p + e.iv + 2)) k at (g.clear h)
              (rw h (omega (arith, count-is h, clear-length c (pairs_at c e at) (at + e.iv + 2))));
          protected = λ h.
              rest-stands c e (λ p. protected_bytes c (pairs_at c e p) (p + e.iv + 2)) k at (g.protected h)
              (rw h (omega (arith, count-is h, protected-length c (pairs_at c e at) (at + e.iv + 2))));
        }
