-- Events, as their boxes have them; and as words, ten for each, of which six say where the scheme, the value and the message stand in the bytes.
use Rattle.std.specs.Prelude.{ℕ, zero, suc, ◌+◌, ◌*◌, ◌≤◌, ◌<◌, List, [], ◌∷◌, length, get_or, take, drop}
use Rattle.constants.specs.Maxima.{events_most, block_most}

-- ==== The rules

-- an event, with its timescale and time as the box has them
pub record Event : Type 0 where
  pub scheme : List ℕ
  pub value : List ℕ
  pub timescale : ℕ
  pub time : ℕ
  pub duration : ℕ
  pub id : ℕ
  pub message : List ℕ

-- some of the object's bytes, from a place on
abbrev pub part : List ℕ → ℕ → ℕ → List ℕ
part o place size = take size (drop place o)

-- the words of an event, and those of all the events that a block or a chunk can have
abbrev pub event_words : ℕ
event_words = 10

abbrev pub events_len : ℕ
events_len = event_words * events_most

-- the places among an event's words: where scheme, value and message stand and how long they are, and the four numbers
abbrev pub event_scheme : ℕ
event_scheme = 0

abbrev pub event_scheme_len : ℕ
event_scheme_len = 1

abbrev pub event_value : ℕ
event_value = 2

abbrev pub event_value_len : ℕ
event_value_len = 3

abbrev pub event_timescale : ℕ
event_timescale = 4

abbrev pub event_time : ℕ
event_time = 5

abbrev pub event_duration : ℕ
event_duration = 6

abbrev pub event_id : ℕ
event_id = 7

abbrev pub event_message : ℕ
event_message = 8

abbrev pub event_message_len : ℕ
event_message_len = 9

-- the event with the number i
unfoldable pub event_at : List ℕ → List ℕ → ℕ → Event
event_at o ws i =
    record {
      scheme = part o (get_or ws (event_words * i) 0) (get_or ws (event_words * i + event_scheme_len) 0);
      value = part o (get_or ws (event_words * i + event_value) 0) (get_or ws (event_words * i + event_value_len) 0);
      timescale = get_or ws (event_words * i + event_timescale) 0;
      time = get_or ws (event_words * i + event_time) 0;
      duration = get_or ws (event_words * i + event_duration) 0;
      id = get_or ws (event_words * i + event_id) 0;
      message = part o (get_or ws (event_words * i + event_message) 0) (get_or ws (event_words * i + event_message_len) 0);
    }

-- k events from the number i on
unfoldable pub events_from : List ℕ → List ℕ → ℕ → ℕ → List Event
events_from o ws zero i = []
events_from o ws (suc k) i = event_at o ws i ∷ events_from o ws k (suc i)

abbrev pub events_of : List ℕ → List ℕ → ℕ → List Event
events_of o ws k = events_from o ws k 0

-- ==== What only mirrors the code

-- a part lies in the object, and is short enough for lengths to be added up
pub record Inside (o : List ℕ) (place size : ℕ) : Type 0 where
  pub within : place + size ≤ length o
  pub short : size ≤ block_most

-- the words of the event with the number i are there, and its parts lie in the object
pub record EventFits (o ws : List ℕ) (i : ℕ) : Type 0 where
  pub there : event_words * i + event_words ≤ length ws
  pub scheme : Inside o (get_or ws (event_words * i) 0) (get_or ws (event_words * i + event_scheme_len) 0)
  pub value : Inside o (get_or ws (event_words * i + event_value) 0) (get_or ws (event_words * i + event_value_len) 0)
  pub message : Inside o (get_or ws (event_words * i + event_message) 0) (get_or ws (event_words * i + event_message_len) 0)

-- 01: "16 emsg records"
pub record EventsFit (o ws : List ℕ) (k : ℕ) : Type 0 where
  pub few : k ≤ events_most
  pub each : (i : ℕ) → i < k → EventFits o ws i
