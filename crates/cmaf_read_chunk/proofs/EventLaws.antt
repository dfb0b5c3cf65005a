-- The words of a chunk's events that are kept: they are its events, and their lengths have 32 bits. Assumes nothing.
use Prim.Native.Nat.{ℕ, zero, suc, ◌+◌, ◌*◌, ◌^◌, ◌≤◌, ◌<◌}
use native.Mathlib.Nat.{not-suc-le-zero}
use native.Mathlib.Omega.{arith}
use mathlib.Core.Path.{◌≡◌, refl, sym, ◌∙◌, ap, ap₂, subst}
use mathlib.Core.Bool.{true}
use mathlib.Core.List.{List, ◌∷◌, ◌++◌, append_assoc}
use lib.ListN.{length, get_or, take, drop, get_or-append}
use lib.Seq.{get_or-drop, drop-drop, drop_at}
use Rattle.constants.specs.Maxima.{events_most}
use Rattle.laws.specs.Bytes.{Bytes}
use Rattle.laws.proofs.BytesLaws.{bytes_take, bytes_drop}
use Rattle.laws.proofs.TestLaws.{left, right}
use Rattle.boxes.specs.Box.{emsg}
use Rattle.cmaf_read_tree.specs.Whole.{size_of}
use Rattle.cmaf_read_tree.proofs.WholeLaws.{Sized}
use Rattle.byte_parts.specs.declared.Part.{Part}
use Rattle.cmaf_read_shape.specs.Parts.{end_of, list_at, box_at}
use Rattle.cmaf_read_shape.proofs.PartLaws.{box-sized, box-size}
use Rattle.event_value.specs.Events.{Event, event_at, events_from, events_of}
use Rattle.event_value.specs.Events.{event_words, event_scheme_len, event_value, event_value_len, event_timescale, event_time, event_duration, event_id, event_message, event_message_len}
use Rattle.cmaf_read_prelude.specs.Emsg.{emsg_ok, emsg_at, emsgs_ok, box_words, emsg_words, kept_events}
use Rattle.cmaf_read_prelude.proofs.NumberLaws.{number_lt}
use Rattle.cmaf_read_prelude.proofs.EmsgLaws.{Strings, strings}
use Rattle.cmaf_read_prelude.proofs.EventLaws.{event-in, event-numbers, event-length, words-length}
use Rattle.locmaf_write_events.specs.Records.{AllWords, AllIn}

-- ---- lengths have 32 bits

-- a box that is found has a size of 32 bits
box-narrow : (c : List ℕ) (at end kind : ℕ) → Bytes c → ((box_at c at end kind).len ≡ 0 → ⊥) → (box_at c at end kind).len < 2 ^ 32
unfolding size_of
box-narrow c at end kind y h =
    let l : List ℕ = list_at c at end in
    let s : Sized l = box-sized c at end kind h in
    rw (box-size c at end kind h) (number_lt l 4 0 (bytes_drop at (take end c) (bytes_take end c y)) (omega (arith, s.long)))

-- the lengths in the words at the front of a list
record Narrow (l : List ℕ) : Type 0 where
  scheme : get_or l event_scheme_len 0 < 2 ^ 32
  value : get_or l event_value_len 0 < 2 ^ 32
  message : get_or l event_message_len 0 < 2 ^ 32

first-narrow : (c : List ℕ) (at : ℕ) (rest : List ℕ) → Bytes c → emsg_ok c (emsg_at c at) ≡ true → Narrow (box_words c (emsg_at c at) ++ rest)
unfolding box_words
first-narrow c at rest y e =
    let b : Part = emsg_at c at in
    let s : Strings c b = strings c b e in
    let n : b.len < 2 ^ 32 = box-narrow c at (length c) emsg y (λ z. omega (arith, s.long)) in
    record {
      scheme = omega (arith, n, s.scheme-from, s.scheme-to);
      value = omega (arith, n, s.scheme-from, s.value-from, s.value-to);
      message = omega (arith, n, s.scheme-from, s.value-from, s.value-to);
    }

all-narrow : (c : List ℕ) (k at i : ℕ) (rest : List ℕ) → Bytes c → emsgs_ok c k at ≡ true → i < k
    → Narrow (drop (event_words * i) (emsg_words c k at ++ rest))
unfolding emsg_words emsgs_ok
all-narrow c zero at i rest y e lt = absurd (not-suc-le-zero lt)
all-narrow c (suc k) at zero rest y e lt =
    subst Narrow (sym (append_assoc (box_words c (emsg_at c at)) _ rest))
    (first-narrow c at (emsg_words c k (end_of (emsg_at c at)) ++ rest) y (left _ _ e))
all-narrow c (suc k) at (suc i) rest y e lt =
    let b : Part = emsg_at c at in
    let w : List ℕ = emsg_words c k (end_of b) ++ rest in
    let n : event_words * suc i ≡ event_words + event_words * i = omega arith in
    let past : drop (event_words * i) w ≡ drop (event_words * suc i) ((box_words c b ++ emsg_words c k (end_of b)) ++ rest) =
    sym
    (ap (drop (event_words * suc i)) (append_assoc (box_words c b) (emsg_words c k (end_of b)) rest)
    ∙ ap (λ (m : ℕ). drop m (box_words c b ++ w)) n
    ∙ sym (drop-drop (event_words * i) event_words (box_words c b ++ w))
    ∙ ap (drop (event_words * i)) (drop_at (box_words c b) w event_words (event-length c b))) in
    subst Narrow past (all-narrow c k (end_of b) i rest y (right _ _ e) (omega arith))

-- ---- the words are the chunk's events

-- events look at their own words only
event-front : (c ws rest : List ℕ) (i : ℕ) → event_words * i + event_words ≤ length ws → event_at c (ws ++ rest) i ≡ event_at c ws i
unfolding event_at
event-front c ws rest i h =
    let w : (j : ℕ) → j < event_words * i + event_words → get_or (ws ++ rest) j 0 ≡ get_or ws j 0 = λ j l. get_or-append ws rest 0 j (omega arith) in
    rw (
      w (event_words * i) (omega arith),
      w (event_words * i + event_scheme_len) (omega arith),
      w (event_words * i + event_value) (omega arith),
      w (event_words * i + event_value_len) (omega arith),
      w (event_words * i + event_timescale) (omega arith),
      w (event_words * i + event_time) (omega arith),
      w (event_words * i + event_duration) (omega arith),
      w (event_words * i + event_id) (omega arith),
      w (event_words * i + event_message) (omega arith),
      w (event_words * i + event_message_len) (omega arith),
    )

events-front : (c ws rest : List ℕ) (k i : ℕ) → event_words * (i + k) ≤ length ws → events_from c (ws ++ rest) k i ≡ events_from c ws k i
unfolding events_from
events-front c ws rest zero i h = refl
events-front c ws rest (suc k) i h =
    ap₂ (λ (e : Event) (es : List Event). e ∷ es) (event-front c ws rest i (omega arith)) (events-front c ws rest k (suc i) (omega arith))

module _ (c : List ℕ) (k at : ℕ) (ws : List ℕ) where
  pub events-kept : events_of c (kept_events c k at ws) k ≡ events_of c (emsg_words c k at) k
  unfolding kept_events
  events-kept = events-front c (emsg_words c k at) (drop (event_words * k) ws) k 0 (omega (arith, words-length c k at))

  module _ (h : at ≤ length c) (e : emsgs_ok c k at ≡ true) (r : event_words * k ≤ length ws) where
    -- the texts of the events lie in the chunk
    pub all_in : AllIn c (kept_events c k at ws) k
    all_in i lt = let w = event-in c k at ws h e r i lt in record { scheme = w.scheme; value = w.value; message = w.message }

    -- and their words can be counted
    pub all_words : Bytes c → k ≤ events_most → AllWords (kept_events c k at ws) k
    unfolding kept_events
    all_words y few =
        let all : List ℕ = emsg_words c k at ++ drop (event_words * k) ws in
        record {
          few = few;
          each = λ i lt.
              let w = event-in c k at ws h e r i lt in
              let n = event-numbers c k at ws y h e i lt in
              let s = all-narrow c k at i (drop (event_words * k) ws) y e lt in
              record {
                there = w.there;
                scheme-lt = rw (sym (get_or-drop (event_words * i) all event_scheme_len 0)) s.scheme;
                value-lt = rw (sym (get_or-drop (event_words * i) all event_value_len 0)) s.value;
                timescale-lt = n.timescale;
                duration-lt = n.duration;
                id-lt = n.id;
                message-lt = rw (sym (get_or-drop (event_words * i) all event_message_len 0)) s.message;
              };
        }

-- words of k events are so many
pub words-there : (ws : List ℕ) (k : ℕ) → AllWords ws k → event_words * k ≤ length ws
words-there ws zero w = omega arith
words-there ws (suc k) w = omega (arith, (w.each k (omega arith)).there)
