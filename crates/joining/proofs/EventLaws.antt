-- The brands of an accepted object are few and its events short, so that the boxes before the `moof` have sizes of 32 bits. Assumes nothing.
use Prim.Native.Nat.{ℕ, ◌+◌, ◌≤◌}
use native.Mathlib.Omega.{arith}
use mathlib.Core.Path.{◌≡◌, refl}
use mathlib.Core.Bool.{Bool, true, false, cond, ◌&&◌}
use mathlib.Core.List.{List, [], ◌∷◌, map}
use borrow.Author.Tests.{leb-true}
use lib.Dec.{eqb, leb}
use lib.ListN.{length}
use Rattle.std.specs.Prelude.{Option, Some, None}
use Rattle.laws.specs.Options.{on_option}
use Rattle.laws.proofs.SliceLaws.{slice-few}
use Rattle.laws.proofs.TestLaws.{left, and_left, and_right}
use Rattle.wire.specs.declared.form.Row.{Row}
use Rattle.constants.specs.Maxima.{brand_bytes_most, events_most, event_bytes_most, payload_most, number_most}
use Rattle.track.specs.declared.Track.{Track}
use Rattle.media.specs.declared.clocks.TrackTicks.{TrackTicks}
use Rattle.locmaf_read_block.specs.declared.records.Record.{Record}
use Rattle.locmaf_read_block.specs.Records.{records_f}
use Rattle.block_items.specs.Events.{Event}
use Rattle.locmaf_read_block.specs.Events.{event_of, events_f}
use Rattle.field_rules.specs.Fields.{numbers}
use Rattle.locmaf_read_events.specs.Events.{from_bmdt}
use Rattle.locmaf_read_events.specs.Values.{listed, with_time, boxed, boxes}
use Rattle.receiver.specs.Object.{saying, payload}
use Rattle.receiver.specs.Receive.{track, bmdt, prft, events, brands, values_ok}
use Rattle.rebuilt.specs.Chunk.{Short, AllShort}

module _ (t : Track) (b : ℕ) where
  -- its times change nothing of it
  boxed-short : (e : Event) → ((scale time : ℕ) → Short (with_time e scale time)) → Short (boxed t b e)
  unfolding boxed
  boxed-short e h = by (eqb e.timescale 0) (from_bmdt b e.time)
    where
      by : (own : Bool) (x : Option TrackTicks)
          → Short
          (cond own (on_option x (λ (time : TrackTicks). with_time e t.timescale time.0) (with_time e e.timescale e.time))
          (with_time e e.timescale e.time))
      by true (Some x) = h _ _
      by true None = h _ _
      by false x = h _ _

  all_short : (bs : List ℕ) (rs : List Record) → length bs ≤ event_bytes_most → AllShort (boxes t b (map (event_of bs) rs))
  unfolding event_of
  all_short bs [] h = tt
  all_short bs (r ∷ rs) h = (
    boxed-short (event_of bs r)
        (λ scale time.
        record {
          scheme = omega (arith, slice-few r.scheme.at (r.scheme.at + r.scheme.len) bs);
          value = omega (arith, slice-few r.value.at (r.value.at + r.value.len) bs);
          message = omega (arith, slice-few r.message.at (r.message.at + r.message.len) bs);
        }),
    all_short bs rs h,
  )

  listed-short : (F : List Row) (said : Option (List ℕ)) → length (numbers said) ≤ event_bytes_most → AllShort (boxes t b (listed F said))
  unfolding listed events_f
  listed-short F None h = tt
  listed-short F (Some bs) h = by (records_f F 0 bs) refl
    where
      by : (x : Option (List Record)) → records_f F 0 bs ≡ x → AllShort (boxes t b (listed F (Some bs)))
      by None e = rw e tt
      by (Some rs) e = rw e (all_short bs rs h)

-- of an object whose values are right
module _ (F : List Row) (o s : List ℕ) (h : values_ok F o s ≡ true) where
  -- the last three of the tests in their row
  maxima : (leb (length (brands F o s)) brand_bytes_most && (leb (length (events F o s)) events_most && leb (length (numbers (saying F o 25))) event_bytes_most)) ≡ true
  unfolding values_ok
  maxima =
      and_right (leb (length (payload F o)) payload_most) _
      (and_right (prft F o s).ok _ (and_right (leb (bmdt F o s) number_most) _ (left _ _ h)))

  pub brands-few : length (brands F o s) ≤ brand_bytes_most
  brands-few = leb-true _ _ (and_left (leb (length (brands F o s)) brand_bytes_most) _ maxima)

  pub events-short : AllShort (boxes (track F o s) (bmdt F o s) (events F o s))
  unfolding events
  events-short =
      listed-short (track F o s) (bmdt F o s) F (saying F o 25)
      (leb-true _ _ (and_right (leb (length (events F o s)) 16) _ (and_right (leb (length (brands F o s)) brand_bytes_most) _ maxima)))
