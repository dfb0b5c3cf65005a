-- Every IV of a chunk that no rung refuses has the size that the track's parameter says. Assumes nothing.
use Prim.Native.Nat.{ℕ, zero, suc, ◌+◌}
use native.Mathlib.Omega.{arith}
use mathlib.Core.Path.{◌≡◌, refl, ◌∙◌, ap}
use mathlib.Core.Bool.{Bool, true, false, cond, not}
use mathlib.Core.List.{List}
use borrow.Author.Tests.{eqb-true}
use lib.Dec.{eqb}
use lib.ListN.{length}
use lib.Seq.{slice, length-slice}
use Rattle.std.specs.Prelude.{Some, None}
use Rattle.laws.specs.Each.{AllOf}
use Rattle.laws.proofs.SliceLaws.{slice-none}
use Rattle.track.specs.declared.Track.{Track}
use Rattle.field_set.specs.Lawful.{has}
use Rattle.cmaf_read_senc.specs.declared.entries.Entries.{Entries}
use Rattle.cmaf_read_senc.specs.Entries.{length_at}
use Rattle.cmaf_read_senc.proofs.EntryLaws.{left-whole}
use Rattle.cmaf_read_senc.proofs.SencLaws.{entries-iv}
use Rattle.cmaf_read_set.specs.Set.{entries, run, chunk_set}
use Rattle.cmaf_read_chunk.specs.Accepted.{inner}
use Rattle.cmaf_read_chunk.proofs.ChunkFacts.{Facts, chunk-facts}
use Rattle.meaning.specs.Meaning.{entry_at, protection_at, sample_at, samples_from, meaning_of}
use Rattle.cmaf_read_facts.specs.Given.{F}
use Rattle.cmaf_read_facts.proofs.SencWalk.{Walk, walk_start, walk-next}
use Rattle.meant.specs.IvSizes.{SizedIv, IvsSized}
use Rattle.meant.proofs.EntryMeans.{ivs-stand}

module _ (t : Track) (c : List ℕ) (a : Facts t c) where
  abbrev e : Entries
  e = entries t c (inner c)

  -- the IV at the front of an entry lies in the chunk
  iv-long : {k i j at : ℕ} → Walk t c (suc k) i j at → eqb (inner c).senc.len 0 ≡ false → length (slice at (at + e.iv) c) ≡ e.iv
  iv-long {at = at} g there = by (eqb e.iv 0) refl
    where
      by : (b : Bool) → eqb e.iv 0 ≡ b → length (slice at (at + e.iv) c) ≡ e.iv
      by true z =
          let none-there : e.iv ≡ 0 = eqb-true e.iv 0 z in
          ap length (slice-none at (at + e.iv) c (omega arith)) ∙ omega arith
      by false z =
          let h : has 9 (chunk_set t c (inner c)) ≡ true = ivs-stand t c a there ∙ ap not z in
          length-slice at (at + e.iv) c (omega (arith, left-whole (omega arith) (g.left h))) ∙ omega arith

  sized : {k i j at : ℕ} → Walk t c (suc k) i j at → SizedIv t (protection_at t c (inner c) at)
  unfolding protection_at entry_at
  sized {at = at} g = by (eqb (inner c).senc.len 0) refl
    where
      by : (b : Bool) → eqb (inner c).senc.len 0 ≡ b → SizedIv t (cond b None (Some (entry_at c e at)))
      by true z = tt
      by false z = iv-long g z ∙ entries-iv t c (inner c).senc

  -- those that are left
  all-sized : (k i j at : ℕ) → Walk t c k i j at → AllOf (λ s. SizedIv t s.protection) (samples_from t c (inner c) k i at)
  unfolding samples_from sample_at
  all-sized zero i j at g = tt
  all-sized (suc k) i j at g = (sized g, all-sized k (suc i) _ (at + length_at c e at) (walk-next t c g))

pub ivs-sized : IvsSized
unfolding meaning_of
ivs-sized t c low iv h =
    let a : Facts t c = chunk-facts F t c h low iv in
    all-sized t c a (run t c (inner c)).count 0 0 (entries t c (inner c)).at (walk_start t c a)
