-- The maxima of a chunk, and what a chunk whose boxes are right and whose counts keep them is ready for. Assumes nothing.
use Prim.Native.Nat.{ℕ, ◌≤◌, ◌<◌}
use mathlib.Core.Path.{◌≡◌}
use mathlib.Core.Bool.{Bool, true, ◌&&◌}
use mathlib.Core.List.{List}
use borrow.Author.Tests.{leb-true}
use native.Mathlib.Omega.{arith}
use lib.Dec.{leb}
use Rattle.constants.specs.Maxima.{samples_most, subsamples_most, events_most, payload_most, brands_most}
use Rattle.laws.proofs.TestLaws.{and_left, both_of}
use Rattle.track.specs.declared.Track.{Track}
use Rattle.byte_parts.specs.declared.Part.{Part}
use Rattle.cmaf_read_shape.specs.declared.top.Top.{Top}
use Rattle.cmaf_read_shape.specs.declared.inner.Inner.{Inner}
use Rattle.cmaf_read_shape.specs.Parts.{body_of}
use Rattle.cmaf_read_shape.specs.Top.{top_of}
use Rattle.cmaf_read_shape.specs.Inner.{inner_of}
use Rattle.cmaf_read_prelude.specs.Styp.{brands_in}
use Rattle.cmaf_read_trun.specs.Rows.{count_of}
use Rattle.cmaf_read_senc.specs.Entries.{senc_count, entries_of, subsamples}
use Rattle.cmaf_read_senc.specs.Sizes.{saiz_count}
use Rattle.cmaf_read_senc.proofs.SencLaws.{count-some, entries-count, senc-stands}
use Rattle.cmaf_read_rules.specs.Rules.{Right}
use Rattle.cmaf_read_set.specs.Gatherable.{Gatherable}
use Rattle.cmaf_read_boxes.specs.Right.{boxes_ok}
use Rattle.cmaf_read_chunk.specs.Accepted.{samples_few, counts_ok}
use Rattle.cmaf_read_boxes.proofs.BoxLaws.{BoxesIn, found_in, BoxesHold, found-hold}

-- the code's tests, of the boxes that it has found
pub counts-by : (t : Track) (c : List ℕ) (top : Top) (f : Inner) (s : Bool) (n b : ℕ) (p : Part) → top ≡ top_of c → f ≡ inner_of c top.moof
    → s ≡ samples_few c f
    → n ≡ subsamples t c f.senc → b ≡ brands_in top.styp → p ≡ body_of top.mdat
    → (s && (leb n subsamples_most && (leb b brands_most && (leb top.events events_most && leb p.len payload_most)))) ≡ counts_ok t c
unfolding counts_ok
counts-by t c top f s n b p et ef es en eb ep = rw (es, en, eb, ep, ef, et)

-- ---- what they say

pub record CountsHold (t : Track) (c : List ℕ) (top : Top) (f : Inner) : Type 0 where
  pub samples : count_of c f.trun ≤ samples_most
  pub entries : senc_count c f.senc ≤ samples_most
  pub subsamples-few : subsamples t c f.senc ≤ subsamples_most
  pub brands : brands_in top.styp ≤ brands_most
  pub events : top.events ≤ events_most
  pub payload : (body_of top.mdat).len ≤ payload_most

pub counts-hold : (t : Track) (c : List ℕ) → counts_ok t c ≡ true → CountsHold t c (top_of c) (inner_of c (top_of c).moof)
unfolding counts_ok
counts-hold t c e =
    let top : Top = top_of c in
    let f : Inner = inner_of c top.moof in
    let s : Bool = leb (senc_count c f.senc) samples_most && leb (saiz_count c f.saiz) samples_most in
    let m : Bool = leb top.events events_most && leb (body_of top.mdat).len payload_most in
    let a = both_of (leb (count_of c f.trun) samples_most && s) (leb (subsamples t c f.senc) subsamples_most && (leb (brands_in top.styp) brands_most && m)) e in
    let b = both_of (leb (count_of c f.trun) samples_most) s a.0 in
    let d = both_of (leb (subsamples t c f.senc) subsamples_most) (leb (brands_in top.styp) brands_most && m) a.1 in
    let g = both_of (leb (brands_in top.styp) brands_most) m d.1 in
    let k = both_of (leb top.events events_most) (leb (body_of top.mdat).len payload_most) g.1 in
    record {
      samples = leb-true _ _ b.0;
      entries = leb-true _ _ (and_left (leb (senc_count c f.senc) samples_most) (leb (saiz_count c f.saiz) samples_most) b.1);
      subsamples-few = leb-true _ _ d.0;
      brands = leb-true _ _ g.0;
      events = leb-true _ _ k.0;
      payload = leb-true _ _ k.1;
    }

module _ (t : Track) (c : List ℕ) (top : Top) (f : Inner) (et : top ≡ top_of c) (ef : f ≡ inner_of c top.moof) where
  pub found-counts : counts_ok t c ≡ true → CountsHold t c top f
  found-counts e = rw (ef, et) (counts-hold t c e)

  module _ (e : boxes_ok t c ≡ true) (k : counts_ok t c ≡ true) where
    -- the rules can be asked
    pub right_is : Right t c top f
    right_is =
        let i : BoxesIn c top f = found_in c top f et ef in
        let h : BoxesHold t c top f = found-hold t c top f et ef e in
        let n : CountsHold t c top f = found-counts k in
        record {
          styp-in = i.styp-in;
          prft-in = i.prft-in;
          prft-ok = h.prft-ok;
          moof-in = i.moof-in;
          mdat-in = i.mdat-in;
          tfhd-in = i.tfhd-in;
          tfhd-ok = h.tfhd-ok;
          tfdt-in = i.tfdt-in;
          tfdt-ok = h.tfdt-ok;
          trun-in = i.trun-in;
          trun-ok = h.trun-ok;
          senc-in = i.senc-in;
          senc-ok = h.senc-ok;
          senc-after = λ s. i.senc-after;
          saiz-in = i.saiz-in;
          saiz-ok = h.saiz-ok;
          saio-in = i.saio-in;
          saio-ok = h.saio-ok;
          samples = n.samples;
          subsamples = n.subsamples-few;
        }

    -- the set can be gathered
    pub gatherable : t.iv_size ≤ 16 → Gatherable t c f
    gatherable v =
        let i : BoxesIn c top f = found_in c top f et ef in
        let h : BoxesHold t c top f = found-hold t c top f et ef e in
        let n : CountsHold t c top f = found-counts k in
        let few : 0 < f.senc.len → (entries_of t c f.senc).count ≤ samples_most =
        λ s.
        omega
        (arith, entries-count t c f.senc, count-some c f.senc (senc-stands t c f.senc h.senc-ok s), n.entries) in
        record {
          tfhd-in = i.tfhd-in;
          tfhd-ok = h.tfhd-ok;
          tfdt-in = i.tfdt-in;
          tfdt-ok = h.tfdt-ok;
          trun-in = i.trun-in;
          trun-ok = h.trun-ok;
          senc-in = i.senc-in;
          senc-ok = h.senc-ok;
          samples = n.samples;
          entries = few;
          subsamples = n.subsamples-few;
          iv = v;
        }
