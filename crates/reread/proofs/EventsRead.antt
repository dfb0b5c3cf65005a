-- The events of a chunk can be written where their times fit, and are read as they were: the boxes, and every value in its range. Assumes nothing.
use Prim.Native.Nat.{ℕ, ◌-◌, ◌^◌, ◌≤◌}
use native.Mathlib.Omega.{arith}
use mathlib.Core.Path.{◌≡◌, refl, sym, ap, ap₂}
use mathlib.Core.Bool.{true, false}
use mathlib.Core.List.{List, [], ◌∷◌}
use borrow.Author.Tests.{eqb-true, ne_eqb, le-leb}
use borrow.Table.Steps.{cases}
use lib.Dec.{eqb}
use lib.ListN.{length}
use Rattle.constants.specs.Maxima.{event_bytes_most}
use Rattle.laws.proofs.TestLaws.{both}
use Rattle.wire.specs.declared.form.Form.TheVariants.{Rfc9000}
use Rattle.wire.specs.declared.zigzag.Coding.TheVariants.{Delta}
use Rattle.wire.specs.Form.{limit}
use Rattle.wire.specs.Zigzag.{wire_of}
use Rattle.wire.proofs.FormLaws.{lawful}
use Rattle.wire.proofs.SizeLaws.{limit-62}
use Rattle.wire.proofs.ZigzagLaws.{back}
use Rattle.block_items.specs.Events.{Event, AllSayable}
use Rattle.locmaf_read_block.proofs.EventsWritten.{events-written}
use Rattle.media.specs.Clocks.{track_at}
use Rattle.track.specs.declared.Track.{Track}
use Rattle.track.specs.Track.{u32}
use Rattle.event_value.specs.Events.{Event as Box}
use Rattle.field_rules.specs.Fields.{numbers}
use Rattle.locmaf_read_events.specs.Values.{listed, on_time, fits, all_fit, with_time, boxed, boxes}
use Rattle.locmaf_write_event_times.specs.Times.{scale_for, clock_of, wire_time, time_for}
use Rattle.locmaf_write_events.specs.Records.{sent, all_sent, text_bytes, record_bytes, list_bytes, times_fit}
use Rattle.locmaf_write_event_times.proofs.NumberLaws.{scale-most}
use Rattle.locmaf_write_events.proofs.ListLaws.{all-bytes, fit-first, fit-rest}
use Rattle.cmaf_read_facts.specs.Given.{F, BoxedEvent, AllBoxed}
use Rattle.reread.specs.Block.{event_says}

-- ---- written

text-long : (n : ℕ) → n ≤ text_bytes F n
unfolding text_bytes
text-long n = omega arith

-- events whose times fit can be written, since their list is short
pub all-sayable : (t : Track) (bmdt : ℕ) (es : List Box) → AllBoxed es → times_fit F (all_sent t bmdt es) ≡ true → list_bytes F (all_sent t bmdt es) ≤ event_bytes_most
    → AllSayable F (all_sent t bmdt es)
unfolding list_bytes record_bytes sent
all-sayable t bmdt [] b f n = tt
all-sayable t bmdt (e ∷ es) b f n =
    let big : 2 ^ 62 ≤ limit F = limit-62 Rfc9000 in
    let k = b.0 in (
      record {
        scheme = omega (arith, text-long (length e.scheme));
        value = omega (arith, text-long (length e.value));
        timescale = omega (arith, k.scale-low, scale-most t e.timescale);
        time = fit-first F (sent t bmdt e) (all_sent t bmdt es) f;
        duration = omega (arith, k.duration);
        id = omega (arith, k.id);
        message = omega (arith, text-long (length e.message));
      },
      all-sayable t bmdt es b.1 (fit-rest F (sent t bmdt e) (all_sent t bmdt es) f) (omega arith),
    )

-- ---- read

-- the list that was written, and its bytes
pub listed_back : (es : List Event) → AllSayable F es → listed F (event_says es) ≡ es
unfolding listed
listed_back [] h = refl
listed_back (e ∷ es) h = rw (events-written F (lawful Rfc9000) (e ∷ es) h)

pub listed-bytes : (es : List Event) → AllSayable F es → length (numbers (event_says es)) ≡ list_bytes F es
unfolding list_bytes
listed-bytes [] h = refl
listed-bytes (e ∷ es) h = all-bytes F (e ∷ es) h

module _ (t : Track) (bmdt : ℕ) where
  -- the time of an event, on the track's clock and on its own
  on-time : {A : Type 0} (e : Box) → BoxedEvent e → (g : ℕ → ℕ → A) (z : A) → on_time t bmdt (sent t bmdt e) g z ≡ g e.timescale e.time
  unfolding sent scale_for time_for wire_time clock_of wire_of track_at
  on-time e k g z =
      cases (eqb e.timescale t.timescale)
      (λ q. rw (q, back Delta bmdt e.time (2 ^ 64 - 1) k.time) (ap (λ (n : ℕ). g n e.time) (sym (eqb-true _ _ q))))
      (λ q. rw (q, ne_eqb e.timescale 0 k.scale))

  boxed-back : (e : Box) → BoxedEvent e → boxed t bmdt (sent t bmdt e) ≡ e
  unfolding boxed sent
  boxed-back e k = on-time e k (with_time (sent t bmdt e)) _

  fits-back : (e : Box) → BoxedEvent e → fits t bmdt (sent t bmdt e) ≡ true
  unfolding fits sent
  fits-back e k =
      both _ _ (on-time e k (λ _ _. true) false)
      (both _ _ (both _ _ k.scheme k.value)
      (both _ _ (le-leb (scale_for t e.timescale) u32 (omega (arith, k.scale-low, scale-most t e.timescale)))
      (both _ _ (le-leb _ _ k.duration) (le-leb _ _ k.id))))

  -- the boxes are those of the chunk, and none of their values is outside its range
  pub boxes-back : (es : List Box) → AllBoxed es → boxes t bmdt (all_sent t bmdt es) ≡ es
  boxes-back [] h = refl
  boxes-back (e ∷ es) h = ap₂ (λ (x : Box) (xs : List Box). x ∷ xs) (boxed-back e h.0) (boxes-back es h.1)

  pub all-fit : (es : List Box) → AllBoxed es → all_fit t bmdt (all_sent t bmdt es) ≡ true
  unfolding all_fit
  all-fit [] h = refl
  all-fit (e ∷ es) h = both _ _ (fits-back e h.0) (all-fit es h.1)
