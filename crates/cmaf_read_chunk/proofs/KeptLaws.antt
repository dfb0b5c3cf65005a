-- The events of a chunk as `count` keeps them: what is known of their words, and of the bytes of their records. Assumes nothing.
use Prim.Native.Nat.{ℕ, ◌*◌, ◌≤◌}
use native.Mathlib.Omega.{arith}
use mathlib.Core.Path.{◌≡◌, sym, ◌∙◌, ap, subst}
use mathlib.Core.Bool.{Bool, true}
use mathlib.Core.List.{List}
use lib.ListN.{length}
use Rattle.constants.specs.Maxima.{event_bytes_most}
use Rattle.event_value.specs.Events.{event_words, events_len}
use Rattle.laws.specs.Bytes.{Bytes}
use Rattle.wire.specs.declared.form.Row.{Row}
use Rattle.track.specs.declared.Track.{Track}
use Rattle.cmaf_read_shape.specs.declared.top.Top.{Top}
use Rattle.cmaf_read_shape.specs.declared.inner.Inner.{Inner}
use Rattle.cmaf_read_shape.specs.Parts.{Inside}
use Rattle.cmaf_read_shape.specs.Top.{top_of}
use Rattle.cmaf_read_shape.specs.Inner.{inner_of}
use Rattle.event_value.specs.Events.{Event as Box, events_of}
use Rattle.cmaf_read_prelude.specs.Emsg.{emsgs_ok, emsg_words, kept_events}
use Rattle.cmaf_read_moof.specs.Headers.{bmdt_of, tfdt_ok}
use Rattle.locmaf_write_events.specs.Records.{AllWords, AllIn, all_bytes, all_sent, list_bytes}
use Rattle.locmaf_write_events.proofs.ListLaws.{list-bytes}
use Rattle.cmaf_read_chunk.specs.Accepted.{counts_ok, bmdt, boxes, events}
use Rattle.cmaf_read_boxes.specs.Right.{boxes_ok}
use Rattle.cmaf_read_chunk.specs.Chunks.{Listed}
use Rattle.cmaf_read_boxes.proofs.BoxLaws.{found_in, found-hold}
use Rattle.cmaf_read_chunk.proofs.MaximaLaws.{found-counts}
use Rattle.cmaf_read_chunk.proofs.EventLaws.{events-kept, all_in, all_words}

-- the boxes x and f of a chunk were found and are right, its counts keep their maxima, and words ws₀ are lent for its events
pub record Counting (t : Track) (c : List ℕ) (x : Top) (f : Inner) (ws₀ : List ℕ) : Type 0 where
  pub top-is : x ≡ top_of c
  pub inner-is : f ≡ inner_of c x.moof
  pub boxes-right : boxes_ok t c ≡ true
  pub counts-right : counts_ok t c ≡ true
  pub lent : length ws₀ ≡ events_len

-- of the boxes that the code has found, whose counts were asked
pub counting : {t : Track} {c : List ℕ} {x : Top} {f : Inner} {ws₀ : List ℕ} {ok : Bool} → (x ≡ top_of c) × (f ≡ inner_of c x.moof)
    → (boxes_ok t c ≡ true) × (length ws₀ ≡ events_len) → ok ≡ counts_ok t c → ok ≡ true → Counting t c x f ws₀
counting p q e n = record { top-is = p.0; inner-is = p.1; boxes-right = q.0; counts-right = sym e ∙ n; lent = q.1 }

module _ {t : Track} {c : List ℕ} {x : Top} {f : Inner} {ws₀ : List ℕ} (k : Counting t c x f ws₀) where
  events-few : x.events ≤ 16
  events-few = (found-counts t c x f k.top-is k.inner-is k.counts-right).events

  events-in : x.emsgs.at ≤ length c
  events-in = (found_in c x f k.top-is k.inner-is).emsgs-in

  events-ok : emsgs_ok c x.events x.emsgs.at ≡ true
  events-ok = (found-hold t c x f k.top-is k.inner-is k.boxes-right).emsgs-ok

  events-room : event_words * x.events ≤ length ws₀
  events-room = omega (arith, k.lent, events-few)

  -- the events can be kept
  pub events-lent : ((x.emsgs.at ≤ length c) × (emsgs_ok c x.events x.emsgs.at ≡ true)) × (event_words * x.events ≤ length ws₀)
  events-lent = ((events-in, events-ok), events-room)

  -- BMDT can be read
  pub tfdt-lent : Inside c f.tfdt × (tfdt_ok c f.tfdt ≡ true)
  tfdt-lent = ((found_in c x f k.top-is k.inner-is).tfdt-in, (found-hold t c x f k.top-is k.inner-is k.boxes-right).tfdt-ok)

  module _ {ws : List ℕ} (w : ws ≡ kept_events c x.events x.emsgs.at ws₀) where
    -- their bytes can be counted
    pub kept-words : Bytes c → AllWords ws x.events
    kept-words y = rw w (all_words c x.events x.emsgs.at ws₀ events-in events-ok events-room y events-few)

    kept_in : AllIn c ws x.events
    kept_in = rw w (all_in c x.events x.emsgs.at ws₀ events-in events-ok events-room)

    -- the words are the chunk's events
    kept-boxes : events_of c ws x.events ≡ boxes c
    unfolding boxes
    kept-boxes =
        ap (λ (l : List ℕ). events_of c l x.events) w
        ∙ events-kept c x.events x.emsgs.at ws₀
        ∙ ap (λ (y : Top). events_of c (emsg_words c y.events y.emsgs.at) y.events) k.top-is

    module _ (F : List Row) {start list : ℕ} (b : start ≡ bmdt_of c f.tfdt) (l : list ≡ all_bytes F t start ws x.events 0) where
      -- what is counted is the bytes of the chunk's events
      pub list_counted : list ≡ list_bytes F (events t c)
      unfolding events bmdt
      list_counted =
          l
          ∙ list-bytes F t start c ws x.events kept_in
          ∙ ap (λ (es : List Box). list_bytes F (all_sent t start es)) kept-boxes
          ∙ ap (λ (s : ℕ). list_bytes F (all_sent t s (boxes c))) (b ∙ rw (k.inner-is, k.top-is))

      -- and where they are few, all is known of the events
      pub listed : Bytes c → list ≤ event_bytes_most → Listed F t c list ws
      listed y short =
          record {
            words = subst (λ (z : Top). AllWords ws z.events) k.top-is (kept-words y);
            inside = subst (λ (z : Top). AllIn c ws z.events) k.top-is kept_in;
            boxes-are = subst (λ (z : Top). events_of c ws z.events ≡ boxes c) k.top-is kept-boxes;
            list-is = list_counted;
            short = short;
          }
