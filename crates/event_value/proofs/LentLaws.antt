-- The words of one event as they are lent: the event with the number 0 among them is the one with its number among all. Assumes nothing.
use Prim.Native.Nat.{ℕ, ◌+◌, ◌-◌, ◌*◌, ◌≤◌, ◌<◌}
use native.Mathlib.Nat.{add-zero}
use native.Mathlib.Omega.{arith}
use mathlib.Core.Path.{◌≡◌, ◌∙◌, ap}
use mathlib.Core.List.{List}
use lib.ListN.{length, get_or, take, drop, length-drop}
use lib.Seq.{get_or-take, get_or-drop, length-take-le}
use Rattle.event_value.specs.Events.{event_at, EventFits, event_words, event_scheme_len, event_value, event_value_len, event_timescale, event_time, event_duration, event_id, event_message, event_message_len}

abbrev pub lent : List ℕ → ℕ → List ℕ
lent ws i = take (event_words * i + event_words - event_words * i) (drop (event_words * i) ws)

module _ (ws : List ℕ) (i : ℕ) (h : event_words * i + event_words ≤ length ws) where
  pub lent-long : event_words ≤ length (lent ws i)
  lent-long =
      let d = length-drop (event_words * i) ws in
      omega (arith, d, length-take-le (event_words * i + event_words - event_words * i) (drop (event_words * i) ws) (omega (arith, d)))

  -- each of its words
  pub lent-word : (j : ℕ) → j < event_words → get_or (lent ws i) j 0 ≡ get_or ws (event_words * i + j) 0
  lent-word j lt =
      get_or-take (event_words * i + event_words - event_words * i) (drop (event_words * i) ws) j 0 (omega arith) ∙ get_or-drop (event_words * i) ws j 0

  pub lent-first : get_or (lent ws i) 0 0 ≡ get_or ws (event_words * i) 0
  lent-first = lent-word 0 (omega arith) ∙ ap (λ (n : ℕ). get_or ws n 0) (add-zero (event_words * i))

  pub lent-event : (o : List ℕ) → event_at o (lent ws i) 0 ≡ event_at o ws i
  unfolding event_at
  lent-event o =
      rw (
        lent-first,
        lent-word event_scheme_len (omega arith),
        lent-word event_value (omega arith),
        lent-word event_value_len (omega arith),
        lent-word event_timescale (omega arith),
        lent-word event_time (omega arith),
        lent-word event_duration (omega arith),
        lent-word event_id (omega arith),
        lent-word event_message (omega arith),
        lent-word event_message_len (omega arith),
      )

  pub lent_fits : (o : List ℕ) → EventFits o ws i → EventFits o (lent ws i) 0
  lent_fits o e =
      record {
        there = lent-long;
        scheme = rw (lent-first, lent-word event_scheme_len (omega arith)) e.scheme;
        value = rw (lent-word event_value (omega arith), lent-word event_value_len (omega arith)) e.value;
        message = rw (lent-word event_message (omega arith), lent-word event_message_len (omega arith)) e.message;
      }
