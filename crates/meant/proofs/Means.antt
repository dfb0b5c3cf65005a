-- The meaning of an accepted chunk is a function of its set, `prft`, events, brands and payload: so two chunks of which an object says the same mean the
-- same. Assumes nothing.
use Prim.Native.Nat.{ℕ, zero, suc, ◌+◌, ◌≤◌, ◌<◌}
use native.Mathlib.Omega.{arith}
use mathlib.Core.Path.{◌≡◌, refl, sym, ◌∙◌, ap₂}
use mathlib.Core.Bool.{◌&&◌}
use mathlib.Core.List.{List, [], ◌∷◌}
use borrow.Author.Tests.{eqb-true}
use lib.Dec.{eqb}
use lib.ListN.{length}
use Rattle.laws.proofs.TestLaws.{and_left}
use Rattle.track.specs.declared.Track.{Track}
use Rattle.cmaf_read_shape.specs.declared.inner.Inner.{Inner}
use Rattle.cmaf_read_shape.specs.Parts.{body_of}
use Rattle.cmaf_read_prelude.specs.Styp.{minor_version}
use Rattle.cmaf_read_prelude.specs.Prft.{prft_track}
use Rattle.field_set.specs.Lawful.{has, value_at, count_in}
use Rattle.boxes.specs.Box.{flag_when}
use Rattle.cmaf_read_senc.specs.Entries.{length_at}
use Rattle.cmaf_read_set.specs.Set.{defaults, run, entries, chunk_set}
use Rattle.cmaf_read_set.proofs.SetSays.{says_other}
use Rattle.cmaf_read_rules.specs.Rules.{outer_ok}
use Rattle.cmaf_read_chunk.specs.Accepted.{top, inner, boxes, prft, brands, payload, fields}
use Rattle.cmaf_read_chunk.proofs.ChunkFacts.{Facts, chunk-facts, payload-length}
use Rattle.meaning.specs.Meaning.{Sample, sample_at, samples_from, styp_of, meaning_of}
use Rattle.cmaf_read_facts.specs.Given.{F}
use Rattle.cmaf_read_facts.proofs.SizeGives.{size_same, chunk-sized}
use Rattle.cmaf_read_facts.proofs.SencWalk.{Walk, walk_start, walk-next}
use Rattle.meant.specs.BySet.{sample_by, samples_by, styp_by, meaning_by, MeansBySet}
use Rattle.meant.proofs.SampleMeans.{duration-means, offset-means, flags-means}
use Rattle.meant.proofs.EntryMeans.{protection-means}
use Rattle.meant.proofs.EventMeans.{events-mean}
use Rattle.meant.proofs.BrandMeans.{brands-mean}

module _ (t : Track) (c : List ℕ) (a : Facts t c) where
  abbrev f : Inner
  f = inner c

  abbrev w : List ℕ
  w = chunk_set t c f

  abbrev n : ℕ
  n = (body_of (top c).mdat).len

  -- ---- the samples

  sample-means : {k i j at : ℕ} → i < (run t c f).count → Walk t c (suc k) i j at → sample_at t c f i at ≡ sample_by t w n i j
  unfolding sample_at sample_by
  sample-means {k} {i} lt g =
      λ x.
      record {
        size = sym (size_same (chunk-sized t c a) i lt) x;
        duration = duration-means t c a i lt x;
        offset = offset-means t c a i lt x;
        flags = flags-means t c a i lt x;
        protection = protection-means t c a g x;
      }

  -- those that are left, with their entries
  samples-mean : (k i j at : ℕ) → i + k ≤ (run t c f).count → Walk t c k i j at → samples_from t c f k i at ≡ samples_by t w n k i j
  unfolding samples_from samples_by
  samples-mean zero i j at h g = refl
  samples-mean (suc k) i j at h g =
      ap₂ (λ (x : Sample) (xs : List Sample). x ∷ xs) (sample-means (omega arith) g)
      (samples-mean k (suc i) (j + flag_when (has 11 w) (value_at 11 i w)) (at + length_at c (entries t c f) at) (omega arith) (walk-next t c g))

  -- all of them
  all-mean : samples_from t c f (run t c f).count 0 (entries t c f).at ≡ samples_by t (fields t c) (length (payload c)) (count_in (fields t c)) 0 0
  unfolding fields
  all-mean =
      samples-mean (run t c f).count 0 0 (entries t c f).at (omega arith) (walk_start t c a)
      ∙ sym (ap₂ (λ (m k : ℕ). samples_by t w m k 0 0) (payload-length c) a.said.count)

  -- ---- the `styp`, whose minor version is 0

  names-mean : styp_of c (top c).styp ≡ styp_by (brands c)
  unfolding brands outer_ok
  names-mean =
      brands-mean c (top c).styp a.bytes a.lie.styp-in a.hold.styp-ok
      (eqb-true _ _
      (and_left (eqb (minor_version c (top c).styp) 0) (eqb (prft_track c (top c).prft t.id) t.id && eqb (defaults t c f).track t.id)
      a.rules.outer))

-- all of it, part by part
pub means-by-set : MeansBySet
unfolding meaning_of meaning_by prft payload boxes fields
means-by-set t c low iv h =
    let a : Facts t c = chunk-facts F t c h low iv in
    λ x.
    record {
      bmdt = sym a.said.bmdt x;
      description = sym (says_other t.description a.said.description) x;
      samples = all-mean t c a x;
      prft = prft c;
      events = events-mean c (top c).events 0 (top c).emsgs.at [] refl a.lie.emsgs-in a.hold.emsgs-ok x;
      brands = names-mean t c a x;
      payload = payload c;
    }
