-- The values of the events of an object, and their clocks. An event is read as ten words (`record_words` of crate `locmaf_read_block`): the places and
-- lengths of its scheme and its value, its timescale, time, duration and id, and its message's place and length.
use Rattle.std.specs.Prelude.{ℕ, zero, suc, ◌-◌, ◌^◌, ◌≡◌, Bool, true, false, cond, List, [], ◌∷◌, ◌++◌, eqb, leb, get_or, take, drop}
use Rattle.std.proofs.lemmas.List.Edits.{sets}
use Rattle.laws.specs.Tests.{◌and◌}
unfoldable pub use Rattle.laws.specs.Tests.{no_zero}
use Rattle.track.specs.declared.Track.{Track}
use Rattle.track.specs.Track.{u32}
use Rattle.wire.specs.declared.zigzag.Coding.TheVariants.{Delta}
use Rattle.media.specs.declared.clocks.TrackTicks.{TrackTicks}
use Rattle.std.specs.Prelude.{Option}
use Rattle.media.specs.Clocks.{track_at}
use Rattle.event_value.specs.Events.{part, event_words, event_scheme, event_scheme_len, event_value, event_value_len, event_timescale, event_time, event_duration, event_id, EventsFit}
use Rattle.laws.specs.Options.{on_option}

-- ==== The rules

-- the time at a distance from BMDT; the box field has 64 bits
abbrev pub from_bmdt : ℕ → ℕ → Option TrackTicks
from_bmdt bmdt z = track_at Delta bmdt (2 ^ 64 - 1) z

-- ==== What only mirrors the code

-- 01: "Timescale 0 means the track's .. Then the time is a zigzag distance from BMDT in track ticks; otherwise an absolute count on the
-- event's own clock."
unfoldable pub on_clock : {A : Type 0} → ℕ → List ℕ → (TrackTicks → A) → A → A → A
on_clock bmdt e track outside own = cond (eqb (get_or e event_timescale 0) 0) (on_option (from_bmdt bmdt (get_or e event_time 0)) track outside) own

-- the words of an event with the timescale and time of its box
unfoldable pub rebuilt : Track → ℕ → List ℕ → List ℕ
rebuilt t bmdt e = on_clock bmdt e (λ time. sets e event_timescale (t.timescale ∷ time.0 ∷ [])) e e

-- 01: "A rebuilt time below 0: 15."
unfoldable pub timed : ℕ → List ℕ → Bool
timed bmdt e = on_clock bmdt e (λ time. true) false true

-- 01: "A value's range is that of its box field", of 32 bits for timescale, duration and id; "Strings hold no zero byte (15)"
unfoldable pub event_ok : ℕ → List ℕ → List ℕ → Bool
event_ok bmdt o e =
    timed bmdt e
    and (no_zero (part o (get_or e event_scheme 0) (get_or e event_scheme_len 0)) and no_zero (part o (get_or e event_value 0) (get_or e event_value_len 0)))
    and leb (get_or e event_timescale 0) u32
    and leb (get_or e event_duration 0) u32
    and leb (get_or e event_id 0) u32

-- of the k events whose words ws begins with
unfoldable pub events_ok : ℕ → List ℕ → ℕ → List ℕ → Bool
events_ok bmdt o zero ws = true
events_ok bmdt o (suc k) ws = event_ok bmdt o (take event_words ws) and events_ok bmdt o k (drop event_words ws)

unfoldable pub all_rebuilt : Track → ℕ → ℕ → List ℕ → List ℕ
all_rebuilt t bmdt zero ws = ws
all_rebuilt t bmdt (suc k) ws = rebuilt t bmdt (take event_words ws) ++ all_rebuilt t bmdt k (drop event_words ws)

-- the event with these words was answered r and rebuilt
pub record EventRead (t : Track) (bmdt : ℕ) (o before : List ℕ) (r : Bool) (after : List ℕ) : Type 0 where
  pub answered : r ≡ event_ok bmdt o before
  pub stored : after ≡ rebuilt t bmdt before

-- the first k events were answered r and rebuilt; their strings and messages stand where they did
pub record EventsRead (t : Track) (bmdt : ℕ) (o before : List ℕ) (k : ℕ) (r : Bool) (after : List ℕ) : Type 0 where
  pub answered : r ≡ events_ok bmdt o k before
  pub stored : after ≡ all_rebuilt t bmdt k before
  pub fits : EventsFit o after k
