-- The chunk that is written from a canonical set says what it was written from. Assumes nothing.
use Prim.Native.Nat.{ℕ}
use mathlib.Core.Path.{◌≡◌, ◌∙◌, ap}
use mathlib.Core.Bool.{true}
use mathlib.Core.List.{List, []}
use Rattle.track.specs.declared.Track.{Track}
use Rattle.track.specs.declared.Asked.{Asked}
use Rattle.track.specs.Track.{narrow, lawful as lawful_track}
use Rattle.track.proofs.TrackLaws.{ranges, lawful-iv}
use Rattle.boxes.specs.Box as B
use Rattle.cmaf_read_shape.specs.declared.top.Top.{Top}
use Rattle.cmaf_read_shape.specs.Parts.{body_of}
use Rattle.cmaf_read_shape.specs.Top.{top_of}
use Rattle.cmaf_read_shape.specs.Inner.{inner_of}
use Rattle.prft_value.specs.declared.Prft.{Prft}
use Rattle.event_value.specs.Events.{Event, events_of}
use Rattle.cmaf_read_prelude.specs.Prft.{prft_of}
use Rattle.cmaf_read_prelude.specs.Emsg.{emsg_words}
use Rattle.cmaf_read_set.specs.Set.{chunk_set}
use Rattle.cmaf_read_chunk.specs.Accepted.{bytes_at, brands_of, boxes, prft, brands, payload, fields}
use Rattle.cmaf_read_shape.proofs.LeftLaws.{left-all}
use Rattle.rebuilt.specs.Chunk.{chunk_of, Sizable, Fits}
use Rattle.rebuilt.proofs.TopFront.{left₁, left₂, left₄, written_top, chunk-top}
use Rattle.rebuilt.proofs.PrftRead.{prft-says}
use Rattle.cmaf_read_facts.specs.Given.{Given}
use Rattle.rebuilt.specs.Says.{SaysBack, FrontSays}
use Rattle.rebuilt.proofs.FitLaws.{given-fits}
use Rattle.rebuilt.proofs.FrontRead.{inner-found, front_read}
use Rattle.rebuilt_set.proofs.SetRead.{set-read}
use Rattle.rebuilt.proofs.OuterRead.{box-bytes, brands-read}
use Rattle.rebuilt.proofs.EmsgRead.{events-read}

module _ (a : Asked) (sequence : ℕ) (w : List ℕ) (p : Prft) (es : List Event) (names bs : List ℕ) (ok : lawful_track a ≡ true)
    (g : Given (narrow a) w p es names bs) where
  abbrev t : Track
  t = narrow a

  abbrev c : List ℕ
  c = chunk_of t sequence w p es names bs

  fits : Fits t sequence w p es names bs
  fits = given-fits a sequence w p es names bs ok g

  sizable : Sizable t w p es names bs
  sizable = fits.sizable

  top-is : top_of c ≡ written_top t sequence w p es names bs sizable
  top-is = chunk-top t sequence w p es names bs sizable

  -- all that it says
  said : SaysBack t c w p es names bs
  unfolding fields prft boxes brands payload written_top chunk_of
  said =
      record {
        set =
            ap (λ (x : Top). chunk_set t c (inner_of c x.moof)) top-is
            ∙ ap (chunk_set t c) (inner-found t sequence w p es names bs fits)
            ∙ set-read (front_read t sequence w p es names bs fits) g.set (lawful-iv a ok) (ranges a ok).flags;
        time =
            ap (λ (x : Top). prft_of c x.prft) top-is
            ∙ (prft-says t p _ fits.narrow.track g.prft (left₁ t sequence w p es names bs sizable)).read;
        list =
            ap (λ (x : Top). events_of c (emsg_words c x.events x.emsgs.at) x.events) top-is
            ∙ events-read es _ _ sizable.events-short g.boxed (left₂ t sequence w p es names bs sizable);
        brands-are = ap (λ (x : Top). brands_of (bytes_at c (body_of x.styp))) top-is ∙ brands-read names _ g.fours (left-all c);
        rest = ap (λ (x : Top). bytes_at c (body_of x.mdat)) top-is ∙ box-bytes B.mdat bs [] (left₄ t sequence w p es names bs sizable);
      }

-- the chunk reads back as what it was written from
pub front-says : FrontSays
front-says = said
