-- The events of an object as it says them, and as the boxes of its chunk have them.
-- ==== The rules
use Rattle.std.specs.Prelude.{ℕ, Bool, true, false, cond, List, [], ◌∷◌, map, eqb, leb, Option, Some, None}
use Rattle.laws.specs.Tests.{◌and◌, no_zero}
use Rattle.wire.specs.declared.form.Row.{Row}
use Rattle.track.specs.declared.Track.{Track}
use Rattle.track.specs.Track.{u32}
use Rattle.block_items.specs.Events.{Event}
use Rattle.locmaf_read_block.specs.Events.{events_f}
use Rattle.event_value.specs.Events.{Event as Box}
use Rattle.locmaf_read_events.specs.Events.{from_bmdt}
use Rattle.laws.specs.Options.{on_option}

-- the events that id 25 lists (D88)
unfoldable pub listed : List Row → Option (List ℕ) → List Event
listed F None = []
listed F (Some bs) = on_events (events_f F bs)
  where
    on_events : Option (List Event) → List Event
    on_events None = []
    on_events (Some es) = es

-- 01: "Timescale 0 means the track's .. Then the time is a zigzag distance from BMDT in track ticks; otherwise an absolute count on the
-- event's own clock." (D111, D112)
abbrev pub on_time : {A : Type 0} → Track → ℕ → Event → (ℕ → ℕ → A) → A → A
on_time t bmdt e f outside = cond (eqb e.timescale 0) (on_option (from_bmdt bmdt e.time) (λ time. f t.timescale time.0) outside) (f e.timescale e.time)

-- 01: "A rebuilt time below 0: 15. Strings hold no zero byte (15)"; timescale, duration and id have 32 bits (D113)
unfoldable pub fits : Track → ℕ → Event → Bool
fits t bmdt e =
    on_time t bmdt e (λ scale time. true) false
    and (no_zero e.scheme and no_zero e.value)
    and leb e.timescale u32
    and leb e.duration u32
    and leb e.id u32

unfoldable pub all_fit : Track → ℕ → List Event → Bool
all_fit t bmdt [] = true
all_fit t bmdt (e ∷ es) = fits t bmdt e and all_fit t bmdt es

abbrev pub with_time : Event → ℕ → ℕ → Box
with_time e scale time =
    record {
      scheme = e.scheme;
      value = e.value;
      timescale = scale;
      time = time;
      duration = e.duration;
      id = e.id;
      message = e.message;
    }

-- an event as its box has it
unfoldable pub boxed : Track → ℕ → Event → Box
boxed t bmdt e = on_time t bmdt e (with_time e) (with_time e e.timescale e.time)

abbrev pub boxes : Track → ℕ → List Event → List Box
boxes t bmdt es = map (boxed t bmdt) es
