-- A chunk is accepted if each group of tests holds of the boxes that are found in it. These stand here as variables, so that the records that a reader finds
-- are put in once. Assumes nothing.
use Prim.Native.Nat.{ℕ}
use mathlib.Core.Path.{◌≡◌}
use mathlib.Core.Bool.{true, ◌&&◌}
use mathlib.Core.List.{List}
use lib.Dec.{leb}
use Rattle.laws.specs.Ladder.{Hold}
use Rattle.constants.specs.Maxima.{samples_most, subsamples_most, events_most, event_bytes_most, payload_most, brands_most}
use Rattle.laws.proofs.TestLaws.{both}
use Rattle.wire.specs.declared.form.Row.{Row}
use Rattle.cmaf_read_tree.specs.Whole.{whole}
use Rattle.track.specs.declared.Track.{Track}
use Rattle.event_value.specs.Events.{Event as Box, events_of}
use Rattle.cmaf_read_shape.specs.declared.top.Top.{Top}
use Rattle.cmaf_read_shape.specs.declared.inner.Inner.{Inner}
use Rattle.cmaf_read_shape.specs.Parts.{body_of}
use Rattle.cmaf_read_shape.specs.Top.{top_of, top_ok}
use Rattle.cmaf_read_shape.specs.Inner.{inner_of, inner_ok}
use Rattle.cmaf_read_prelude.specs.Styp.{styp_ok, brands_in}
use Rattle.cmaf_read_prelude.specs.Prft.{prft_ok}
use Rattle.cmaf_read_prelude.specs.Emsg.{emsgs_ok, emsg_words}
use Rattle.cmaf_read_moof.specs.Headers.{mfhd_ok, tfdt_ok, bmdt_of}
use Rattle.cmaf_read_moof.specs.Defaults.{tfhd_ok}
use Rattle.cmaf_read_trun.specs.Rows.{trun_ok, count_of}
use Rattle.cmaf_read_senc.specs.Entries.{senc_ok, senc_count, subsamples}
use Rattle.cmaf_read_senc.specs.Sizes.{saiz_ok, saiz_count, saio_ok}
use Rattle.locmaf_write_events.specs.Records.{all_sent, list_bytes}
use Rattle.cmaf_read_rules.specs.Rules.{rules_ok}
use Rattle.cmaf_read_chunk.specs.Accepted.{bmdt, boxes, events, counts_ok, maxima_ok, late_rungs, accept_rungs}
use Rattle.cmaf_read_boxes.specs.Right.{boxes_ok}

module _ (F : List Row) (t : Track) (c : List ℕ) (T : Top) (I : Inner) (es : List Box) where
  -- the tests on boxes, on their counts, and the rules
  pub record Fine : Type 0 where
    pub top-ok : top_ok c T ≡ true
    pub inner-ok : inner_ok T.moof I ≡ true
    pub outer-ok : (styp_ok T.styp && (prft_ok c T.prft && emsgs_ok c T.events T.emsgs.at)) ≡ true
    pub plain-ok : ((mfhd_ok c I.mfhd && tfhd_ok c I.tfhd) && (tfdt_ok c I.tfdt && trun_ok c I.trun)) ≡ true
    pub last-ok : (senc_ok t c I.senc && (saiz_ok c I.saiz && saio_ok c I.saio)) ≡ true
    pub samples-few : (leb (count_of c I.trun) samples_most && (leb (senc_count c I.senc) samples_most && leb (saiz_count c I.saiz) samples_most)) ≡ true
    pub pairs-few : leb (subsamples t c I.senc) subsamples_most ≡ true
    pub outer-few : (leb (brands_in T.styp) brands_most && (leb T.events events_most && leb (body_of T.mdat).len payload_most)) ≡ true
    pub list-is : events_of c (emsg_words c T.events T.emsgs.at) T.events ≡ es
    pub list-few : leb (list_bytes F (all_sent t (bmdt_of c I.tfdt) es)) event_bytes_most ≡ true
    pub rules-ok : rules_ok t c T I es ≡ true

  pub accepted : top_of c ≡ T → inner_of c T.moof ≡ I → Fine → whole c ≡ true → Hold (accept_rungs F t c)
  unfolding accept_rungs late_rungs boxes_ok counts_ok maxima_ok events bmdt boxes
  accepted top-is inner-is f w =
      rw (top-is, inner-is, f.list-is) (
        w,
        (
          both _ _ f.top-ok (both _ _ f.inner-ok (both _ _ f.outer-ok (both _ _ f.plain-ok f.last-ok))),
          (both _ _ (rw (f.samples-few, f.pairs-few, f.outer-few)) f.list-few, (f.rules-ok, tt)),
        ),
      )
