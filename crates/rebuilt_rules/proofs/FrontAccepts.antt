-- No rule refuses the chunk that is written: each group of tests holds of the boxes that are found in it. Assumes nothing.
use Prim.Native.Nat.{ℕ, ◌+◌}
use native.Mathlib.Omega.{arith}
use mathlib.Core.Path.{◌≡◌, refl, ◌∙◌, ap}
use mathlib.Core.Bool.{true}
use mathlib.Core.List.{List, [], ◌++◌}
use borrow.Author.Tests.{eq-eqb, ne_eqb, le-leb, lt-ltb}
use lib.Dec.{leb}
use lib.ListN.{length, length-append}
use Rattle.laws.proofs.TestLaws.{both}
use Rattle.constants.specs.Maxima.{samples_most, events_most, event_bytes_most, payload_most}
use Rattle.laws.specs.Ladder.{Hold}
use Rattle.cmaf_read_chunk.specs.Accepted.{accept_rungs}
use Rattle.boxes.specs.Box.{box}
use Rattle.boxes.specs.Box as B
use Rattle.boxes.proofs.BoxLaws.{length-box}
use Rattle.track.specs.declared.Asked.{Asked}
use Rattle.track.specs.declared.Track.{Track}
use Rattle.track.specs.Track.{narrow, lawful as lawful_track}
use Rattle.track.proofs.TrackLaws.{ranges, lawful-iv}
use Rattle.field_set.proofs.MarkLaws.{marks}
use Rattle.field_set.specs.Lawful.{count_in}
use Rattle.prft_value.specs.declared.Prft.{Prft}
use Rattle.event_value.specs.Events.{Event as Box}
use Rattle.cmaf_write_moof.specs.Moof.{moof_box, moof_whole}
use Rattle.cmaf_write_moof.proofs.MoofLaws.{moof-same}
use Rattle.cmaf_read_shape.specs.declared.top.Top.{Top}
use Rattle.cmaf_read_shape.specs.declared.inner.Inner.{Inner}
use Rattle.cmaf_read_shape.specs.Parts.{end_of, body_of}
use Rattle.cmaf_read_shape.specs.Top.{top_ok}
use Rattle.cmaf_read_shape.specs.Left.{Left}
use Rattle.cmaf_read_shape.proofs.LeftLaws.{left-all, left-inside}
use Rattle.cmaf_read_shape.proofs.PartLaws.{body-in}
use Rattle.locmaf_write_events.specs.Records.{all_sent, list_bytes}
use Rattle.cmaf_read_rules.specs.Rules.{outer_ok, offset_ok, offsets_ok, rules_ok}
use Rattle.cmaf_read_facts.specs.Given.{F, Given}
use Rattle.rebuilt.specs.Chunk.{chunk_of, Sizable, Fits}
use Rattle.rebuilt.specs.Says.{FrontAccepted}
use Rattle.rebuilt.proofs.WholeFront.{chunk_whole}
use Rattle.rebuilt.proofs.TopFront.{left₁, left₂, left₄, written_top, chunk-top}
use Rattle.rebuilt.proofs.InnerFront.{left-last, moof-long}
use Rattle.rebuilt.specs.Read.{Read}
use Rattle.rebuilt.proofs.PrftRead.{prft-says}
use Rattle.rebuilt.proofs.FrontRead.{written_inner, left-moof, inner-found, front_read}
use Rattle.rebuilt.proofs.FitLaws.{given-fits}
use Rattle.rebuilt.proofs.EmsgRead.{events-read}
use Rattle.rebuilt_rules.proofs.Accepting.{Fine, accepted}
use Rattle.rebuilt_rules.proofs.OuterRight.{StypRight, styp-right, mfhd-right, clocks-right, events-right}
use Rattle.rebuilt_rules.proofs.MoofRight.{trun-right, trun-version, trun-alone, inner-right}
use Rattle.rebuilt_rules.proofs.SampleRules.{flags-rule, sizes-rule}
use Rattle.rebuilt_rules.proofs.LastRight.{last-right}

module _ (a : Asked) (sequence : ℕ) (w : List ℕ) (p : Prft) (es : List Box) (names bs : List ℕ) (ok : lawful_track a ≡ true)
    (g : Given (narrow a) w p es names bs) where
  abbrev t : Track
  t = narrow a

  abbrev n : ℕ
  n = length bs

  abbrev c : List ℕ
  c = chunk_of t sequence w p es names bs

  fits : Fits t sequence w p es names bs
  fits = given-fits a sequence w p es names bs ok g

  abbrev sizes : Sizable t w p es names bs
  sizes = fits.sizable

  -- ---- the boxes that are found: those at the top, those in the `moof`, which say what the set has

  abbrev top : Top
  top = written_top t sequence w p es names bs sizes

  abbrev at : ℕ
  at = top.moof.at

  abbrev offset : ℕ
  offset = length (moof_box t sequence w n 0) + 8

  abbrev inner : Inner
  inner = written_inner t sequence w p es names bs fits

  h : Left c at (length c) (moof_box t sequence w n offset ++ box B.mdat bs)
  h = left-moof t sequence w p es names bs fits

  k : Read t c inner w n offset
  k = front_read t sequence w p es names bs fits

  -- the `mdat` holds the payload
  body_is : (body_of top.mdat).len ≡ n
  unfolding written_top
  body_is = let b = body-in top.mdat in omega (arith, b.past_head (omega arith), b.same_end (omega arith))

  -- ---- the tests

  top_right : top_ok c top ≡ true
  unfolding written_top moof_whole top_ok
  top_right =
      rw (
        ne_eqb (length (moof_box t sequence w n offset)) 0 (λ z. omega (arith, moof-long at t sequence w n offset, z)),
        ne_eqb (8 + n) 0 (λ z. omega (arith, z)),
        eq-eqb (end_of top.mdat) (length c)
            (omega (arith, (left₄ t sequence w p es names bs sizes).room, length-append (box B.mdat bs) [], length-box B.mdat bs)),
      )

  styp : StypRight c 0 names
  unfolding chunk_of
  styp = styp-right names _ g.fours g.names-few (left-all c)

  fine : Fine F t c top inner es
  unfolding written_top rules_ok outer_ok offset_ok offsets_ok moof_box moof_whole
  fine =
      let prft = prft-says t p _ fits.narrow.track g.prft (left₁ t sequence w p es names bs sizes) in
      let last = last-right c top t sequence w n offset g.set sizes.set (lawful-iv a ok) (left-last at t sequence w n offset _ h) in
      let m = marks t w g.set.is_lawful in
      record {
        top-ok = top_right;
        inner-ok = inner-right at t sequence w n offset _ last.stand;
        outer-ok = rw (styp.right, prft.right) (events-right _ es _ g.boxed sizes.events-short (left₂ t sequence w p es names bs sizes));
        plain-ok =
            rw (mfhd-right sequence _ (left-inside B.moof _ (box B.mdat bs) h), k.tfhd-right, k.tfdt-right, trun-right k.trun m refl);
        last-ok = last.right;
        samples-few = rw (k.trun.count, le-leb (count_in w) samples_most sizes.set.few) last.samples;
        pairs-few = last.pairs;
        outer-few = rw (styp.few, le-leb (length es) events_most g.few, body_is, le-leb n payload_most g.short);
        list-is = events-read es _ _ sizes.events-short g.boxed (left₂ t sequence w p es names bs sizes);
        list-few = ap (λ (v : ℕ). leb (list_bytes F (all_sent t v es)) event_bytes_most) k.time ∙ le-leb _ event_bytes_most g.list-short;
        rules-ok =
            both _ _ (rw (styp.minor, prft.track, k.track, eq-eqb t.id t.id refl))
            (both _ _ (clocks-right es g.boxed)
            (both _ _
            (rw (k.trun.data-offset, lt-ltb offset 0x8000_0000 fits.offset)
            (eq-eqb offset (length (moof_box t sequence w n offset) + 8) (ap (λ (v : ℕ). v + 8) (moof-same t sequence w n 0 offset))))
            (both _ _ (flags-rule top k g.set (ranges a ok).iv-size (ranges a ok).flags)
            (both _ _ (rw (trun-version k.trun m))
            (both _ _ (sizes-rule top k g.set g.short body_is (trun-alone k.trun m)) (last.rule k))))));
      }

  passes : Hold (accept_rungs F t c)
  passes =
      accepted F t c top inner es (chunk-top t sequence w p es names bs sizes) (inner-found t sequence w p es names bs fits) fine
      (chunk_whole t sequence w p es names bs sizes)

pub front-accepted : FrontAccepted
front-accepted = passes
