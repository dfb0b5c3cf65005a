-- The `emsg` boxes, written.
use Rattle.std.specs.Prelude.{ℕ, ◌+◌, ◌*◌, ◌/◌, ◌^◌, ◌≤◌, ◌<◌, List, [], ◌∷◌, ◌++◌, length, get_or}
use Rattle.laws.specs.Bytes.{be}
use Rattle.boxes.specs.Box.{full_box, words}
use Rattle.boxes.specs.Box as B
use Rattle.constants.specs.Maxima.{events_most, block_most}
use Rattle.event_value.specs.Events.{Event, event_words, event_scheme_len, event_value_len, event_message_len}

-- ==== The rules

unfoldable pub emsg_box : Event → List ℕ
emsg_box e =
    full_box B.emsg 1 0
    (be 4 e.timescale ++ (be 8 e.time ++ (be 4 e.duration ++ (be 4 e.id
    ++ (e.scheme ++ (0 ∷ (e.value ++ (0 ∷ e.message))))))))

unfoldable pub emsg_boxes : List Event → List ℕ
emsg_boxes [] = []
emsg_boxes (e ∷ es) = emsg_box e ++ emsg_boxes es

-- ==== What only mirrors the code

-- all of a box of so many bytes before its strings, as words of four bytes
unfoldable pub emsg_head : ℕ → Event → List ℕ
emsg_head size e = words (size ∷ B.emsg ∷ 0x100_0000 ∷ e.timescale ∷ (e.time / 2 ^ 32) ∷ e.time ∷ e.duration ∷ e.id ∷ [])

-- no box is longer, since none of an event's parts has more bytes than a block
abbrev pub emsg_most : ℕ
emsg_most = 50000

-- what the length of a box goes by: the words of the event with the number i are there, and its parts are short enough for lengths to be added up
pub record EventShort (ws : List ℕ) (i : ℕ) : Type 0 where
  pub there : event_words * i + event_words ≤ length ws
  pub scheme : get_or ws (event_words * i + event_scheme_len) 0 ≤ block_most
  pub value : get_or ws (event_words * i + event_value_len) 0 ≤ block_most
  pub message : get_or ws (event_words * i + event_message_len) 0 ≤ block_most

pub record EventsShort (ws : List ℕ) (k : ℕ) : Type 0 where
  pub few : k ≤ events_most
  pub each : (i : ℕ) → i < k → EventShort ws i
