-- The loop that writes records: what is left to be written, of events whose times all fit. Assumes nothing.
use Prim.Native.Nat.{ℕ, ◌+◌, ◌-◌, ◌≤◌, ◌<◌}
use native.Mathlib.Nat.{sub-zero}
use native.Mathlib.Omega.{arith}
use mathlib.Core.Path.{◌≡◌, ap}
use mathlib.Core.Bool.{true}
use mathlib.Core.List.{List, ◌++◌}
use lib.ListN.{length, length-append}
use Rattle.laws.specs.Writes.{Wrote}
use Rattle.laws.proofs.LeftLaws.{Left, left-all, left-none, left-room, left_less}
use Rattle.wire.specs.declared.form.Row.{Row}
use Rattle.wire.specs.Form.{limit}
use Rattle.track.specs.declared.Track.{Track}
use Rattle.block_items.specs.Events.{enc_event, enc_events}
use Rattle.event_value.specs.Events.{event_at, events_from, events_of}
use Rattle.locmaf_write_events.specs.Records.{sent, all_sent, times_fit}
use Rattle.locmaf_write_events.proofs.ListLaws.{sent-next, sent-end, fit-first, fit-rest}

pub record Writing (F : List Row) (t : Track) (bmdt : ℕ) (c ws : List ℕ) (k : ℕ) (l : List ℕ) (at : ℕ) (m : List ℕ) (p i : ℕ) : Type 0 where
  pub fit : times_fit F (all_sent t bmdt (events_from c ws (k - i) i)) ≡ true
  pub left : Left l at (enc_events F (all_sent t bmdt (events_of c ws k))) m p (enc_events F (all_sent t bmdt (events_from c ws (k - i) i)))

module _ (F : List Row) (t : Track) (bmdt : ℕ) (c ws : List ℕ) (k : ℕ) (l : List ℕ) (at : ℕ) where
  pub writing-all : times_fit F (all_sent t bmdt (events_of c ws k)) ≡ true
      → at + length (enc_events F (all_sent t bmdt (events_of c ws k))) ≤ length l → Writing F t bmdt c ws k l at l at 0
  writing-all fit room = record { fit = rw sub-zero fit; left = rw sub-zero (left-all _ _ _ room) }

  module _ (m : List ℕ) (p i : ℕ) (h : Writing F t bmdt c ws k l at m p i) where
    next : i < k → enc_events F (all_sent t bmdt (events_from c ws (k - i) i))
        ≡ enc_event F (sent t bmdt (event_at c ws i)) ++ enc_events F (all_sent t bmdt (events_from c ws (k - (i + 1)) (i + 1)))
    unfolding enc_events
    next lt = ap (enc_events F) (sent-next t bmdt c ws k i lt)

    -- the next one's time fits, and there is room for its record
    pub writing-fits : i < k → (sent t bmdt (event_at c ws i)).time < limit F
    writing-fits lt = fit-first F _ _ (rw (sent-next t bmdt c ws k i lt) at h.fit)

    pub writing-room : i < k → p + length (enc_event F (sent t bmdt (event_at c ws i))) ≤ length m
    writing-room lt = omega (arith, left-room h.left, simp length-append at (ap length (next lt)))

    pub writing-next : (n : List ℕ) (q : ℕ) → i < k → Wrote m p (enc_event F (sent t bmdt (event_at c ws i))) n q
        → Writing F t bmdt c ws k l at n q (i + 1)
    writing-next n q lt w =
        record {
          fit = fit-rest F (sent t bmdt (event_at c ws i)) _ (rw (sent-next t bmdt c ws k i lt) at h.fit);
          left = left_less h.left _ (next lt) w;
        }

    pub writing-end : k ≤ i → Wrote l at (enc_events F (all_sent t bmdt (events_of c ws k))) m p
    unfolding enc_events
    writing-end le = left-none h.left (ap (enc_events F) (sent-end t bmdt c ws k i le))
