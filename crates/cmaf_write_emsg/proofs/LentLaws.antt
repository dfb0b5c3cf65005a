-- What the length of an event's box goes by, where its words are lent. Assumes nothing.
use Prim.Native.Nat.{ℕ, ◌+◌, ◌*◌, ◌≤◌}
use native.Mathlib.Omega.{arith}
use mathlib.Core.List.{List}
use lib.ListN.{length}
use Rattle.event_value.specs.Events.{event_words, event_scheme_len, event_value_len, event_message_len}
use Rattle.event_value.proofs.LentLaws.{lent, lent-long, lent-word}
use Rattle.cmaf_write_emsg.specs.Emsg.{EventShort}

pub lent-short : (ws : List ℕ) (i : ℕ) → event_words * i + event_words ≤ length ws → EventShort ws i → EventShort (lent ws i) 0
lent-short ws i h e =
    record {
      there = lent-long ws i h;
      scheme = rw (lent-word ws i h event_scheme_len (omega arith)) e.scheme;
      value = rw (lent-word ws i h event_value_len (omega arith)) e.value;
      message = rw (lent-word ws i h event_message_len (omega arith)) e.message;
    }
