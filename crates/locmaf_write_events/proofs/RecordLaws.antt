-- A record as the parts that are written one after another, and its bytes by the event's words. Assumes nothing.
use Prim.Native.Nat.{ℕ, ◌+◌, ◌-◌, ◌*◌, ◌≤◌, ◌<◌}
use native.Mathlib.Nat.{add-sub_cancel_left}
use native.Mathlib.Omega.{arith}
use mathlib.Core.Path.{◌≡◌}
use mathlib.Core.List.{List, [], ◌∷◌, append_assoc}
use lib.ListN.{length, get_or, take, drop, length-append}
use Rattle.laws.proofs.PartLaws.{joined, Parts, parts_all}
use Rattle.wire.specs.declared.form.Row.{Row}
use Rattle.wire.specs.declared.form.Form.{Form}
use Rattle.wire.specs.Form.{rows, limit}
use Rattle.wire.specs.Varint.{encode}
use Rattle.wire.proofs.VarintLaws.{length-encode}
use Rattle.wire.proofs.SizeLaws.{limit-62}
use Rattle.track.specs.declared.Track.{Track}
use Rattle.block_items.specs.Events.{Event, enc_text, enc_event, Sayable}
use Rattle.event_value.specs.Events.{part, event_at, event_words, event_scheme_len, event_value, event_value_len, event_timescale, event_time, event_duration, event_id, event_message, event_message_len}
use Rattle.event_value.proofs.PartLaws.{part_length}
use Rattle.locmaf_write_event_times.specs.Times.{scale_for, time_for}
use Rattle.locmaf_write_events.specs.Records.{sent, enc_marks, text_bytes, record_bytes, words_bytes, EventWords, EventIn}
use Rattle.locmaf_write_event_times.proofs.NumberLaws.{scale-most}

-- ---- a text

-- a length, and the bytes that are lent
abbrev pub text_parts : List Row → List ℕ → ℕ → ℕ → List (List ℕ)
text_parts F c from n = encode F n ∷ take (from + n - from) (drop from c) ∷ []

module _ (c : List ℕ) (from n : ℕ) (h : from + n ≤ length c) where
  pub text-parts : (F : List Row) → joined (text_parts F c from n) ≡ enc_text F (part c from n)
  unfolding enc_text
  text-parts F = rw (add-sub_cancel_left from n, part_length c from n h)

  -- both are left to be written
  pub text-left : (F : List Row) (out : List ℕ) (at : ℕ) → at + length (enc_text F (part c from n)) ≤ length out
      → Parts out at (enc_text F (part c from n)) out at (text_parts F c from n)
  text-left F out at room = parts_all out at (text_parts F c from n) (text-parts F) room

-- ---- the numbers, and the whole record

abbrev pub mark_parts : List Row → List ℕ → ℕ → ℕ → ℕ → List (List ℕ)
mark_parts F ws i scale time =
    encode F scale ∷ encode F time ∷ encode F (get_or ws (event_words * i + event_duration) 0) ∷ encode F (get_or ws (event_words * i + event_id) 0) ∷ []

pub mark-parts : (F : List Row) (t : Track) (bmdt : ℕ) (ws : List ℕ) (i scale time : ℕ) → scale ≡ scale_for t (get_or ws (event_words * i + event_timescale) 0)
    → time ≡ time_for t bmdt (get_or ws (event_words * i + event_timescale) 0) (get_or ws (event_words * i + event_time) 0)
    → joined (mark_parts F ws i scale time) ≡ enc_marks F (sent t bmdt (event_at [] ws i))
unfolding enc_marks sent event_at
mark-parts F t bmdt ws i scale time e₁ e₂ = rw (e₁, e₂)

-- all four are left to be written
pub marks-left : (F : List Row) (t : Track) (bmdt : ℕ) (ws : List ℕ) (i scale time : ℕ) → scale ≡ scale_for t (get_or ws (event_words * i + event_timescale) 0)
    → time ≡ time_for t bmdt (get_or ws (event_words * i + event_timescale) 0) (get_or ws (event_words * i + event_time) 0)
    → (out : List ℕ) (at : ℕ) → at + length (enc_marks F (sent t bmdt (event_at [] ws i))) ≤ length out
    → Parts out at (enc_marks F (sent t bmdt (event_at [] ws i))) out at (mark_parts F ws i scale time)
marks-left F t bmdt ws i scale time e₁ e₂ out at room =
    parts_all out at (mark_parts F ws i scale time) (mark-parts F t bmdt ws i scale time e₁ e₂) room

module _ (F : List Row) (t : Track) (bmdt : ℕ) (c ws : List ℕ) (i : ℕ) where
  -- the numbers are the same with no strings
  abbrev pub record_parts : List (List ℕ)
  record_parts =
      enc_text F (part c (get_or ws (event_words * i) 0) (get_or ws (event_words * i + event_scheme_len) 0))
      ∷ enc_text F (part c (get_or ws (event_words * i + event_value) 0) (get_or ws (event_words * i + event_value_len) 0))
      ∷ enc_marks F (sent t bmdt (event_at [] ws i))
      ∷ enc_text F (part c (get_or ws (event_words * i + event_message) 0) (get_or ws (event_words * i + event_message_len) 0))
      ∷ []

  pub record-parts : joined record_parts ≡ enc_event F (sent t bmdt (event_at c ws i))
  unfolding enc_event enc_marks sent event_at
  record-parts = simp append_assoc

  -- all parts are left to be written
  pub record-left : (out : List ℕ) (at : ℕ) → at + length (enc_event F (sent t bmdt (event_at c ws i))) ≤ length out
      → Parts out at (enc_event F (sent t bmdt (event_at c ws i))) out at record_parts
  record-left out at room = parts_all out at record_parts record-parts room

  -- ---- its bytes

  pub record-bytes : EventIn c ws i → words_bytes F t bmdt ws i ≡ record_bytes F (sent t bmdt (event_at c ws i))
  unfolding words_bytes record_bytes sent event_at
  record-bytes h = rw (part_length c _ _ h.scheme, part_length c _ _ h.value, part_length c _ _ h.message)

-- an event that the form can hold takes as many bytes as were counted
pub event-bytes : (F : List Row) (e : Event) → Sayable F e → length (enc_event F e) ≡ record_bytes F e
unfolding enc_event enc_text record_bytes text_bytes
event-bytes F e h =
    simp length-append
    (omega (
      arith,
      length-encode F (length e.scheme) h.scheme,
      length-encode F (length e.value) h.value,
      length-encode F e.timescale h.timescale,
      length-encode F e.time h.time,
      length-encode F e.duration h.duration,
      length-encode F e.id h.id,
      length-encode F (length e.message) h.message,
    ))

-- an event can be held where its time can: its other numbers have 32 bits
pub sayable : (form : Form) (t : Track) (bmdt : ℕ) (c ws : List ℕ) (i : ℕ) → EventWords ws i → EventIn c ws i
    → (sent t bmdt (event_at c ws i)).time < limit (rows form) → Sayable (rows form) (sent t bmdt (event_at c ws i))
unfolding sent event_at
sayable form t bmdt c ws i w h lt =
    let l = limit-62 form in
    record {
      scheme = omega (arith, w.scheme-lt, part_length c _ _ h.scheme);
      value = omega (arith, w.value-lt, part_length c _ _ h.value);
      timescale = omega (arith, w.timescale-lt, scale-most t (get_or ws (event_words * i + event_timescale) 0));
      time = lt;
      duration = omega (arith, w.duration-lt);
      id = omega (arith, w.id-lt);
      message = omega (arith, w.message-lt, part_length c _ _ h.message);
    }
