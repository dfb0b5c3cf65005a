-- What a chunk that no rung refuses gives: all that an object is made of, with the maxima. Its set is canonical: what it says differs from what its absence
-- means, and sizes and subsamples add up; so that the chunk that is built from it gives the same set again. Assumes nothing.
use Prim.Native.Nat.{ℕ, ◌≤◌}
use native.Mathlib.Omega.{arith}
use mathlib.Core.Path.{◌≡◌, sym, ◌∙◌, subst}
use mathlib.Core.Bool.{true, not, ◌&&◌}
use mathlib.Core.List.{List, [], ◌∷◌}
use borrow.Author.Tests.{eqb-true, eqb-false, eq-eqb, leb-true, not-true, not-false}
use lib.Dec.{eqb}
use lib.ListN.{length, take, drop}
use Rattle.constants.specs.Maxima.{event_bytes_most, number_most, payload_most}
use Rattle.laws.specs.Tests.{all_le}
use Rattle.laws.specs.Ladder.{Hold}
use Rattle.laws.proofs.BytesLaws.{bytes-are}
use Rattle.laws.proofs.TestLaws.{both, all_le-append, low-take, low-drop, low-slice, both_of}
use Rattle.wire.specs.declared.form.Row.{Row}
use Rattle.track.specs.declared.Track.{Track}
use Rattle.track.specs.Track.{iv_ok}
use Rattle.cmaf_read_shape.specs.Parts.{body_of, end_of}
use Rattle.field_set.specs.Lawful.{has, lawful, value_at}
use Rattle.told_sizes.specs.Told.{sizes_agree}
use Rattle.told_sizes.proofs.SumLaws.{lawful-summable}
use Rattle.cmaf_read_prelude.proofs.PrftLaws.{prft-headed, prft-lacks, prft-ranges}
use Rattle.cmaf_read_set.specs.Set.{run, size, equal, several, chunk_set}
use Rattle.cmaf_read_set.proofs.SetSays.{Says, says-value}
use Rattle.locmaf_write_events.specs.Records.{all_sent, list_bytes}
use Rattle.effective.specs.Sums.{sizes_ok}
use Rattle.effective.proofs.AgreeLaws.{sums_kept}
use Rattle.cmaf_read_chunk.specs.Accepted.{top, bmdt, prft, boxes, bytes_at, brands_of, brands, payload, events, fields, inner, accept_rungs}
use Rattle.cmaf_read_chunk.proofs.LawfulSet.{chunk-lawful}
use Rattle.cmaf_read_chunk.proofs.ChunkFacts.{Facts, chunk-facts, brands-few, events-few, list-few, fields-bmdt, payload-length}
use Rattle.cmaf_read_chunk.proofs.SetKeeps.{size_said}
use Rattle.cmaf_read_facts.specs.Given.{F, BoxedPrft, Canonical, ChunkGives}
use Rattle.cmaf_read_facts.proofs.EventGives.{events-boxed}
use Rattle.cmaf_read_facts.proofs.SizeGives.{sizes-hold, sizes-differ, chunk-sized}
use Rattle.cmaf_read_facts.proofs.SumGives.{sums-hold}

-- a test that holds of two numbers that are the same only if they are 0
zero-only : (a b : ℕ) → not (eqb a b && not (eqb a 0)) ≡ true → a ≡ b → b ≡ 0
zero-only a b h e = sym e ∙ eqb-true a 0 (not-false _ (not-true _ (rw (eq-eqb a b e) at h)))

-- a field that stands where its value isn't the track's own
other : {w : List ℕ} {id v : ℕ} (own : ℕ) → Says w id (not (eqb v own)) (v ∷ []) → has id w ≡ true → value_at id 0 w ≡ own → ⊥
other {w} {id} {v} own s h e = eqb-false v own (not-true _ (sym s.stands ∙ h)) (sym (says-value s h 0 (omega arith)) ∙ e)

module _ (t : Track) (c : List ℕ) (a : Facts t c) where
  -- where id 6 stands, the sizes of several samples are equal, and aren't the track's own but for 0
  said : has 6 (chunk_set t c (inner c)) ≡ true → (2 ≤ (run t c (inner c)).count) × (size_said t c (inner c) ≡ true)
  said h =
      let b = both_of (several t c (inner c)) (equal t c (inner c) && size_said t c (inner c)) (sym a.said.same-size.stands ∙ h) in
      (leb-true _ _ b.0, (both_of (equal t c (inner c)) (size_said t c (inner c)) b.1).1)

  -- the set
  set-canonical : lawful t (chunk_set t c (inner c)) ≡ true → Canonical t (chunk_set t c (inner c)) (body_of (top c).mdat).len
  set-canonical l =
      record {
        long = a.said.long;
        is_lawful = l;
        description = other t.description a.said.description;
        duration = other t.duration a.said.duration;
        flags = other t.flags a.said.flags;
        several = λ h. omega (arith, a.said.count, (said h).0);
        size = λ h e. zero-only (size t c (inner c)) t.size (said h).1 (sym (says-value a.said.same-size h 0 (omega arith)) ∙ e);
        unequal = sizes-differ (chunk-sized t c a);
        no-iv-size = a.said.iv-size;
        sizes = sizes-hold (chunk-sized t c a);
        protected = sums-hold t c a;
      }

-- brands of a chunk of bytes are bytes
brands-low : (c : List ℕ) → all_le 255 c ≡ true → all_le 255 (brands c) ≡ true
unfolding brands brands_of
brands-low c low =
    let body : List ℕ = bytes_at c (body_of (top c).styp) in
    let l : all_le 255 body ≡ true = low-slice 255 (body_of (top c).styp).at (end_of (body_of (top c).styp)) c low in
    all_le-append 255 (take 4 body) (drop 8 body) ∙ both _ _ (low-take 255 4 body l) (low-drop 255 8 body l)

-- the `prft` of an accepted chunk
prft-given : (t : Track) (c : List ℕ) → Facts t c → BoxedPrft (prft c)
unfolding prft
prft-given t c a =
    let r = prft-ranges c (top c).prft (bytes-are c a.bytes) a.lie.prft-in a.hold.prft-ok in
    record {
      none = λ z. sym (prft-lacks c (top c).prft z);
      ntp = r.1;
      media = r.2;
      version = r.0;
      flags = omega (arith, (prft-headed c (top c).prft a.hold.prft-ok).flags);
    }

-- the words of its set agree as far as they tell
pub chunk-agrees : (G : List Row) (t : Track) (c : List ℕ) → all_le 255 c ≡ true → iv_ok t.protection t.iv_size ≡ true → Hold (accept_rungs G t c)
    → bmdt c ≤ number_most → sizes_agree t (fields t c) ≡ true
unfolding fields
chunk-agrees G t c low iv h b =
    let a : Facts t c = chunk-facts G t c h low iv in
    let w : List ℕ = chunk_set t c (inner c) in
    sums_kept t w (body_of (top c).mdat).len (lawful-summable t w a.said.long (chunk-lawful G t c low iv h b)) (omega (arith, a.few.payload))
    (sizes-hold (chunk-sized t c a)) (sums-hold t c a)

-- the sizes of its samples add up to the payload, which keeps its maximum
pub chunk-sizes : (G : List Row) (t : Track) (c : List ℕ) → all_le 255 c ≡ true → iv_ok t.protection t.iv_size ≡ true → Hold (accept_rungs G t c)
    → (sizes_ok t (fields t c) (length (payload c)) ≡ true) × (length (payload c) ≤ payload_most)
unfolding fields payload
chunk-sizes G t c low iv h =
    let a : Facts t c = chunk-facts G t c h low iv in (
      subst (λ (n : ℕ). sizes_ok t (chunk_set t c (inner c)) n ≡ true) (sym (payload-length c)) (sizes-hold (chunk-sized t c a)),
      omega (arith, payload-length c, a.few.payload),
    )

-- all of it, part by part
pub chunk-gives : ChunkGives
unfolding fields boxes payload events
chunk-gives t c low iv h b =
    let a : Facts t c = chunk-facts F t c h low iv in
    record {
      set = subst (Canonical t (fields t c)) (sym (payload-length c)) (set-canonical t c a (chunk-lawful F t c low iv h b));
      prft = prft-given t c a;
      boxed = events-boxed c (top c).events (top c).emsgs.at low a.lie.emsgs-in a.hold.emsgs-ok a.rules.clocks;
      few = events-few F t c h;
      names-few = (brands-few F t c h).0;
      fours = (brands-few F t c h).1;
      bytes = (brands-low c low, low-slice 255 (body_of (top c).mdat).at (end_of (body_of (top c).mdat)) c low);
      short = omega (arith, payload-length c, a.few.payload);
      list-short = subst (λ (n : ℕ). list_bytes F (all_sent t n (boxes c)) ≤ event_bytes_most) (sym (fields-bmdt t c)) (list-few F t c h);
    }
