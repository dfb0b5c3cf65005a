-- What the record of an event goes by, where its words are lent. Assumes nothing.
use Prim.Native.Nat.{ℕ, ◌+◌, ◌*◌, ◌≤◌}
use native.Mathlib.Omega.{arith}
use mathlib.Core.Path.{◌≡◌}
use mathlib.Core.List.{List}
use lib.ListN.{length}
use Rattle.wire.specs.declared.form.Row.{Row}
use Rattle.track.specs.declared.Track.{Track}
use Rattle.event_value.specs.Events.{event_words, event_scheme_len, event_value, event_value_len, event_timescale, event_time, event_duration, event_id, event_message, event_message_len}
use Rattle.event_value.proofs.LentLaws.{lent, lent-long, lent-word, lent-first}
use Rattle.locmaf_write_events.specs.Records.{words_bytes, EventWords, EventIn}

module _ (ws : List ℕ) (i : ℕ) (h : event_words * i + event_words ≤ length ws) where
  pub lent-bytes : (F : List Row) (t : Track) (bmdt : ℕ) → words_bytes F t bmdt (lent ws i) 0 ≡ words_bytes F t bmdt ws i
  unfolding words_bytes
  lent-bytes F t bmdt =
      rw (
        lent-word ws i h event_scheme_len (omega arith),
        lent-word ws i h event_value_len (omega arith),
        lent-word ws i h event_timescale (omega arith),
        lent-word ws i h event_time (omega arith),
        lent-word ws i h event_duration (omega arith),
        lent-word ws i h event_id (omega arith),
        lent-word ws i h event_message_len (omega arith),
      )

  pub lent-words : EventWords ws i → EventWords (lent ws i) 0
  lent-words e =
      record {
        there = lent-long ws i h;
        scheme-lt = rw (lent-word ws i h event_scheme_len (omega arith)) e.scheme-lt;
        value-lt = rw (lent-word ws i h event_value_len (omega arith)) e.value-lt;
        timescale-lt = rw (lent-word ws i h event_timescale (omega arith)) e.timescale-lt;
        duration-lt = rw (lent-word ws i h event_duration (omega arith)) e.duration-lt;
        id-lt = rw (lent-word ws i h event_id (omega arith)) e.id-lt;
        message-lt = rw (lent-word ws i h event_message_len (omega arith)) e.message-lt;
      }

  pub lent-in : (c : List ℕ) → EventIn c ws i → EventIn c (lent ws i) 0
  lent-in c e =
      record {
        scheme = rw (lent-first ws i h, lent-word ws i h event_scheme_len (omega arith)) e.scheme;
        value = rw (lent-word ws i h event_value (omega arith), lent-word ws i h event_value_len (omega arith)) e.value;
        message = rw (lent-word ws i h event_message (omega arith), lent-word ws i h event_message_len (omega arith)) e.message;
      }
