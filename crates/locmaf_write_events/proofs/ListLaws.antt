-- The events of a chunk one after another, as they are sent: their bytes, whether their times fit, and that they can be written. Assumes nothing.
use Prim.Native.Nat.{ℕ, zero, suc, ◌+◌, ◌-◌, ◌≤◌, ◌<◌}
use native.Mathlib.Numerals.{add-one}
use native.Mathlib.Omega.{arith}
use mathlib.Core.Path.{◌≡◌, refl, sym, ◌∙◌, ap, ap₂}
use mathlib.Core.Bool.{Bool, true}
use mathlib.Core.List.{List, [], ◌∷◌}
use borrow.Author.Tests.{ltb-true}
use lib.Dec.{ltb}
use lib.ListN.{length, length-append}
use Rattle.laws.specs.Tests.{◌and◌}
use Rattle.laws.proofs.TestLaws.{left, right}
use Rattle.wire.specs.declared.form.Row.{Row}
use Rattle.wire.specs.declared.form.Form.{Form}
use Rattle.wire.specs.Form.{rows, limit}
use Rattle.track.specs.declared.Track.{Track}
use Rattle.block_items.specs.Events.{Event, enc_event, enc_events, AllSayable}
use Rattle.event_value.specs.Events.{event_at, events_from, events_of}
use Rattle.locmaf_write_events.specs.Records.{sent, all_sent, list_bytes, times_fit, EventWords, AllWords, EventIn, AllIn, all_bytes}
use Rattle.locmaf_write_events.proofs.RecordLaws.{record-bytes, event-bytes, sayable}

-- what is left of k events from the number i on
module _ (t : Track) (bmdt : ℕ) (c ws : List ℕ) (k i : ℕ) where
  pub sent-end : k ≤ i → all_sent t bmdt (events_from c ws (k - i) i) ≡ []
  unfolding events_from
  sent-end h = let e : k - i ≡ 0 = omega arith in rw e

  pub sent-next : i < k
      → all_sent t bmdt (events_from c ws (k - i) i) ≡ sent t bmdt (event_at c ws i) ∷ all_sent t bmdt (events_from c ws (k - (i + 1)) (i + 1))
  unfolding events_from
  sent-next h = let e : k - i ≡ suc (k - (i + 1)) = omega arith in rw (e, add-one)

-- ---- whether the times fit

module _ (F : List Row) (e : Event) (es : List Event) where
  pub fit-cons : times_fit F (e ∷ es) ≡ (ltb e.time (limit F) and times_fit F es)
  unfolding times_fit
  fit-cons = refl

  -- the first does, and the others do
  pub fit-first : times_fit F (e ∷ es) ≡ true → e.time < limit F
  fit-first h = ltb-true _ _ (left _ _ (sym fit-cons ∙ h))

  pub fit-rest : times_fit F (e ∷ es) ≡ true → times_fit F es ≡ true
  fit-rest h = right (ltb e.time (limit F)) _ (sym fit-cons ∙ h)

-- the strings have no part in it
module _ (F : List Row) (t : Track) (bmdt : ℕ) (c ws : List ℕ) where
  any-from : (k i : ℕ) → times_fit F (all_sent t bmdt (events_from c ws k i)) ≡ times_fit F (all_sent t bmdt (events_from [] ws k i))
  unfolding times_fit events_from sent event_at
  any-from zero i = refl
  any-from (suc k) i = ap (λ (b : Bool). ltb (sent t bmdt (event_at c ws i)).time (limit F) and b) (any-from k (suc i))

  pub times-any : (k : ℕ) → times_fit F (all_sent t bmdt (events_of c ws k)) ≡ times_fit F (all_sent t bmdt (events_of [] ws k))
  times-any k = any-from k 0

-- ---- the bytes

module _ (F : List Row) (t : Track) (bmdt : ℕ) (c ws : List ℕ) where
  bytes-from : (k i : ℕ) → ((j : ℕ) → j < i + k → EventIn c ws j) → all_bytes F t bmdt ws k i ≡ list_bytes F (all_sent t bmdt (events_from c ws k i))
  unfolding all_bytes list_bytes events_from
  bytes-from zero i h = refl
  bytes-from (suc k) i h =
      ap₂ ◌+◌ (record-bytes F t bmdt c ws i (h i (omega arith))) (bytes-from k (suc i) (λ j lt. h j (omega arith)))

  -- what is counted by the words is the bytes of the list, where the strings lie in the chunk
  pub list-bytes : (k : ℕ) → AllIn c ws k → all_bytes F t bmdt ws k 0 ≡ list_bytes F (all_sent t bmdt (events_of c ws k))
  list-bytes k h = bytes-from k 0 (λ j lt. h j (omega arith))

module _ (form : Form) (t : Track) (bmdt : ℕ) (c ws : List ℕ) where
  sayable-from : (k i : ℕ) → ((j : ℕ) → j < i + k → EventWords ws j) → ((j : ℕ) → j < i + k → EventIn c ws j)
      → times_fit (rows form) (all_sent t bmdt (events_from c ws k i)) ≡ true → AllSayable (rows form) (all_sent t bmdt (events_from c ws k i))
  unfolding events_from
  sayable-from zero i w h fit = tt
  sayable-from (suc k) i w h fit = (
    sayable form t bmdt c ws i (w i (omega arith)) (h i (omega arith)) (fit-first (rows form) _ _ fit),
    sayable-from k (suc i) (λ j lt. w j (omega arith)) (λ j lt. h j (omega arith)) (fit-rest (rows form) (sent t bmdt (event_at c ws i)) _ fit),
  )

  -- events whose times fit can be written
  pub all-sayable : (k : ℕ) → AllWords ws k → AllIn c ws k → times_fit (rows form) (all_sent t bmdt (events_of c ws k)) ≡ true
      → AllSayable (rows form) (all_sent t bmdt (events_of c ws k))
  all-sayable k w h fit = sayable-from k 0 (λ j lt. w.each j (omega arith)) (λ j lt. h j (omega arith)) fit

-- the bytes of events that can be written
pub all-bytes : (F : List Row) (es : List Event) → AllSayable F es → length (enc_events F es) ≡ list_bytes F es
unfolding enc_events list_bytes
all-bytes F [] h = refl
all-bytes F (e ∷ es) h = length-append (enc_event F e) (enc_events F es) ∙ ap₂ ◌+◌ (event-bytes F e h.0) (all-bytes F es h.1)

-- and what is written has the bytes that were counted
pub encoded-bytes : (form : Form) (t : Track) (bmdt : ℕ) (c ws : List ℕ) (k : ℕ) → AllWords ws k → AllIn c ws k
    → times_fit (rows form) (all_sent t bmdt (events_of c ws k)) ≡ true
    → length (enc_events (rows form) (all_sent t bmdt (events_of c ws k))) ≡ list_bytes (rows form) (all_sent t bmdt (events_of c ws k))
encoded-bytes form t bmdt c ws k w h fit =
    all-bytes (rows form) (all_sent t bmdt (events_of c ws k)) (all-sayable form t bmdt c ws k w h fit)
