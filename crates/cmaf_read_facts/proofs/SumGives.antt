-- The subsamples of a set add up to the sizes of its samples, as those of the entries do that it was gathered from. Assumes nothing.
use Prim.Native.Nat.{ℕ, zero, suc, ◌+◌, ◌*◌, ◌≤◌}
use native.Mathlib.Omega.{arith}
use mathlib.Core.Path.{◌≡◌, refl, sym, ◌∙◌, ap, ap₂}
use mathlib.Core.Bool.{Bool, true, not, ◌||◌}
use mathlib.Core.List.{List}
use borrow.Author.Tests.{eqb-true, eq-eqb}
use borrow.Table.Steps.{cases}
use lib.Dec.{eqb}
use lib.ListN.{length}
use Rattle.laws.specs.Tests.{sum}
use Rattle.laws.proofs.TestLaws.{left, right, both, and_left, and_right}
use Rattle.cmaf_read_tree.specs.Numbers.{u16, u32}
use Rattle.track.specs.declared.Track.{Track}
use Rattle.cmaf_read_shape.specs.Parts.{body_of}
use Rattle.field_set.specs.Lawful.{has, value_at}
use Rattle.told_sizes.specs.Sums.{bytes_of}
use Rattle.effective.specs.Sums.{samples_ok, protected_ok}
use Rattle.cmaf_read_trun.specs.declared.rows.Run.{Run}
use Rattle.cmaf_read_trun.specs.Rows.{size_at}
use Rattle.cmaf_read_trun.specs.Samples.{each_from}
use Rattle.field_rules.proofs.StandLaws.{Stand, stand-part}
use Rattle.cmaf_read_senc.specs.declared.entries.Entries.{Entries}
use Rattle.cmaf_read_senc.specs.Entries.{pairs_at, length_at}
use Rattle.cmaf_read_senc.specs.Sizes.{info_size}
use Rattle.cmaf_read_rules.specs.Rules.{pairs_sum, entry_ok, entries_ok}
use Rattle.cmaf_read_set.specs.Entries.{clear_bytes, protected_bytes}
use Rattle.cmaf_read_set.specs.Set.{defaults, run, entries, has_map, chunk_set}
use Rattle.cmaf_read_set.proofs.EntryLengths.{clear-length, protected-length}
use Rattle.cmaf_read_set.proofs.FitLaws.{some_bytes}
use Rattle.cmaf_read_chunk.specs.Accepted.{top, inner}
use Rattle.cmaf_read_chunk.proofs.ChunkFacts.{Facts}
use Rattle.cmaf_read_facts.proofs.SizeGives.{size_same, chunk-sized}
use Rattle.cmaf_read_facts.proofs.SencWalk.{Walk, protection, walk_start, count-is, clear-here, protected-here, walk-next}

-- clear and protected bytes, pair by pair or each by itself
pairs-from : (c : List ℕ) (at k q : ℕ)
    → pairs_sum c k (at + 6 * q) ≡ sum (each_from (λ j. u16 c (at + 6 * j)) k q) + sum (each_from (λ j. u32 c (at + 6 * j + 2)) k q)
unfolding pairs_sum each_from sum
pairs-from c at zero q = refl
pairs-from c at (suc k) q = let e : at + 6 * q + 6 ≡ at + 6 * suc q = omega arith in rw e (omega (arith, pairs-from c at k (suc q)))

pub pairs-split : (c : List ℕ) (k at : ℕ) → pairs_sum c k at ≡ sum (clear_bytes c k at) + sum (protected_bytes c k at)
unfolding clear_bytes protected_bytes
pairs-split c k at = let e : at + 6 * 0 ≡ at = omega arith in ap (pairs_sum c k) (sym e) ∙ pairs-from c at k 0

-- the bytes of some subsamples, by the values of the field
bytes-are : {id : ℕ} {w : List ℕ} {j : ℕ} {vs : List ℕ} (k : ℕ) → length vs ≡ k → Stand id w j vs → bytes_of id w j k ≡ sum vs
unfolding bytes_of
bytes-are k e s = rw (← e) (ap sum (stand-part s))

-- ---- an accepted chunk, and its set

module _ (t : Track) (c : List ℕ) (a : Facts t c) where
  abbrev w : List ℕ
  w = chunk_set t c (inner c)

  abbrev e : Entries
  e = entries t c (inner c)

  abbrev r : Run
  r = run t c (inner c)

  abbrev size : ℕ → ℕ
  size = size_at c r (defaults t c (inner c)).size

  abbrev payload : ℕ
  payload = (body_of (top c).mdat).len

  module _ (h : has 11 w ≡ true) where
    -- the entries have subsamples
    mapped : has_map t c (inner c) ≡ true
    mapped = sym a.said.counts.stands ∙ h

    -- the subsamples of an entry add up to the size of its sample
    adds-up : {k i j at : ℕ} → Walk t c (suc k) i j at → entry_ok c e at (size i) ≡ true
        → bytes_of 13 w j (value_at 11 i w) + bytes_of 15 w j (value_at 11 i w) ≡ size i
    unfolding entry_ok
    adds-up {k} {i} {j} {at} g q =
        let n : ℕ = pairs_at c e at in
        let p : ℕ = at + e.iv + 2 in
        let m : e.map ≡ true = and_right (not (eqb (inner c).senc.len 0)) e.map mapped in
        let s : pairs_sum c n p ≡ size i = eqb-true _ _ (sym (ap (λ (b : Bool). not b || eqb (pairs_sum c n p) (size i)) m) ∙ q) in
        rw (count-is t c g h)
        (ap₂ (λ (x y : ℕ). x + y) (bytes-are n (clear-length c n p) (clear-here t c g h)) (bytes-are n (protected-length c n p) (protected-here t c g h))
        ∙ sym (pairs-split c n p) ∙ s)

    -- and so of all entries that are left
    samples-hold : (k i j at : ℕ) → i + k ≤ r.count → Walk t c k i j at → entries_ok c e (inner c).saiz r (defaults t c (inner c)).size k i at ≡ true
        → samples_ok t w payload k i j ≡ true
    unfolding samples_ok entries_ok
    samples-hold zero i j at lt g q = refl
    samples-hold (suc k) i j at lt g q =
        let o = and_left (entry_ok c e at (size i)) (eqb (info_size c (inner c).saiz i) (length_at c e at)) (left _ _ q) in
        both _ _ (eq-eqb _ _ (adds-up g o ∙ sym (size_same (chunk-sized t c a) i (omega arith))))
        (samples-hold k (suc i) (j + value_at 11 i w) (at + length_at c e at) (omega arith) (rw h at (walk-next t c g)) (right _ _ q))

  -- the rule, which asks this only of a set with subsamples
  pub sums-hold : protected_ok t w payload ≡ true
  unfolding protected_ok
  sums-hold =
      cases (has 11 w)
      (λ h.
      rw (h, a.said.count)
      (samples-hold h r.count 0 0 e.at (omega arith) (walk_start t c a) (protection t c a (some_bytes _ _ (mapped h))).each))
      (λ h. rw h)
