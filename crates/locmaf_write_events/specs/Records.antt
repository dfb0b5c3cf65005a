-- The events of a chunk as the records of id 25.
use Rattle.std.specs.Prelude.{ℕ, zero, suc, ◌+◌, ◌*◌, ◌^◌, ◌≤◌, ◌<◌, Bool, true, List, [], ◌∷◌, ◌++◌, map, ltb, length, get_or}
use Rattle.laws.specs.Tests.{◌and◌}
use Rattle.constants.specs.Maxima.{events_most}
use Rattle.wire.specs.declared.form.Row.{Row}
use Rattle.wire.specs.Form.{limit}
use Rattle.wire.specs.Varint.{encode, size_of}
use Rattle.track.specs.declared.Track.{Track}
use Rattle.locmaf_write_event_times.specs.Times.{scale_for, time_for}
use Rattle.block_items.specs.Events.{Event}
use Rattle.event_value.specs.Events.{Event as Box, event_at, events_of, event_words, event_scheme_len, event_value, event_value_len, event_timescale, event_time, event_duration, event_id, event_message, event_message_len}

-- ==== The rules

-- an event as it stands on the wire
unfoldable pub sent : Track → ℕ → Box → Event
sent t bmdt e =
    record {
      scheme = e.scheme;
      value = e.value;
      timescale = scale_for t e.timescale;
      time = time_for t bmdt e.timescale e.time;
      duration = e.duration;
      id = e.id;
      message = e.message;
    }

abbrev pub all_sent : Track → ℕ → List Box → List Event
all_sent t bmdt es = map (sent t bmdt) es

-- the event with the number i, and k events, as they stand on the wire
abbrev pub sent_at : Track → ℕ → List ℕ → List ℕ → ℕ → Event
sent_at t bmdt c ws i = sent t bmdt (event_at c ws i)

abbrev pub sent_of : Track → ℕ → List ℕ → List ℕ → ℕ → List Event
sent_of t bmdt c ws k = all_sent t bmdt (events_of c ws k)

-- ---- list bytes

-- a length and so many bytes
unfoldable pub text_bytes : List Row → ℕ → ℕ
text_bytes F n = size_of F n + n

-- 8: "in list bytes a number too wide counts as the longest varint", which `size_of` says of it (D42)
unfoldable pub record_bytes : List Row → Event → ℕ
record_bytes F e =
    text_bytes F (length e.scheme)
    + (text_bytes F (length e.value)
    + (size_of F e.timescale
    + (size_of F e.time + (size_of F e.duration + (size_of F e.id + text_bytes F (length e.message))))))

unfoldable pub list_bytes : List Row → List Event → ℕ
list_bytes F [] = 0
list_bytes F (e ∷ es) = record_bytes F e + list_bytes F es

-- "every number in it fits": the time can be too wide, every other number has 32 bits
unfoldable pub times_fit : List Row → List Event → Bool
times_fit F [] = true
times_fit F (e ∷ es) = ltb e.time (limit F) and times_fit F es

-- ==== What only mirrors the code

-- the four numbers in the middle of a record
unfoldable pub enc_marks : List Row → Event → List ℕ
enc_marks F e = encode F e.timescale ++ (encode F e.time ++ (encode F e.duration ++ encode F e.id))

-- ---- events as words (`event_at` of crate `event_value`)

-- the words of the event with the number i are there, and all of them but its time, which may have 64 bits, and the places have 32
pub record EventWords (ws : List ℕ) (i : ℕ) : Type 0 where
  pub there : event_words * i + event_words ≤ length ws
  pub scheme-lt : get_or ws (event_words * i + event_scheme_len) 0 < 2 ^ 32
  pub value-lt : get_or ws (event_words * i + event_value_len) 0 < 2 ^ 32
  pub timescale-lt : get_or ws (event_words * i + event_timescale) 0 < 2 ^ 32
  pub duration-lt : get_or ws (event_words * i + event_duration) 0 < 2 ^ 32
  pub id-lt : get_or ws (event_words * i + event_id) 0 < 2 ^ 32
  pub message-lt : get_or ws (event_words * i + event_message_len) 0 < 2 ^ 32

-- of k events
pub record AllWords (ws : List ℕ) (k : ℕ) : Type 0 where
  pub few : k ≤ events_most
  pub each : (i : ℕ) → i < k → EventWords ws i

-- their strings and messages lie in the chunk
pub record EventIn (c ws : List ℕ) (i : ℕ) : Type 0 where
  pub scheme : get_or ws (event_words * i) 0 + get_or ws (event_words * i + event_scheme_len) 0 ≤ length c
  pub value : get_or ws (event_words * i + event_value) 0 + get_or ws (event_words * i + event_value_len) 0 ≤ length c
  pub message : get_or ws (event_words * i + event_message) 0 + get_or ws (event_words * i + event_message_len) 0 ≤ length c

abbrev pub AllIn : List ℕ → List ℕ → ℕ → Type 0
AllIn c ws k = (i : ℕ) → i < k → EventIn c ws i

-- what the code adds up: the bytes of the record of the event with the number i, by its words
unfoldable pub words_bytes : List Row → Track → ℕ → List ℕ → ℕ → ℕ
words_bytes F t bmdt ws i =
    text_bytes F (get_or ws (event_words * i + event_scheme_len) 0)
    + (text_bytes F (get_or ws (event_words * i + event_value_len) 0)
    + (size_of F (scale_for t (get_or ws (event_words * i + event_timescale) 0))
    + (size_of F (time_for t bmdt (get_or ws (event_words * i + event_timescale) 0) (get_or ws (event_words * i + event_time) 0))
    + (size_of F (get_or ws (event_words * i + event_duration) 0) + (size_of F (get_or ws (event_words * i + event_id) 0) + text_bytes F (get_or ws (event_words * i + event_message_len) 0))))))

-- and of k records from the number i on
unfoldable pub all_bytes : List Row → Track → ℕ → List ℕ → ℕ → ℕ → ℕ
all_bytes F t bmdt ws zero i = 0
all_bytes F t bmdt ws (suc k) i = words_bytes F t bmdt ws i + all_bytes F t bmdt ws k (suc i)
