-- The events of an accepted chunk are as their boxes can have them: numbers in range, a timescale, and texts of bytes without a zero. So they can be
-- written into an object, and into boxes again. Assumes nothing.
use Prim.Native.Nat.{ℕ, zero, suc, ◌+◌, ◌*◌, ◌≤◌, ◌<◌}
use native.Mathlib.Omega.{arith}
use mathlib.Core.Path.{◌≡◌, ◌∙◌, ap, subst}
use mathlib.Core.Bool.{true}
use mathlib.Core.List.{List}
use borrow.Author.Tests.{eqb-false, not-true}
use lib.ListN.{length, get_or, drop}
use Rattle.event_value.specs.Events.{event_words, event_scheme_len, event_value, event_value_len, event_message, event_message_len}
use Rattle.laws.specs.Tests.{all_le}
use Rattle.laws.proofs.BytesLaws.{bytes-are}
use Rattle.laws.proofs.TestLaws.{left, right, low-take, low-drop}
use Rattle.event_value.specs.Events.{part, event_at, events_from, events_of}
use Rattle.cmaf_read_prelude.specs.Emsg.{emsgs_ok, emsg_words, kept_events}
use Rattle.cmaf_read_prelude.proofs.EventLaws.{EventIn, EventNumbers, event-in, event-numbers, words-length}
use Rattle.cmaf_read_rules.specs.Rules.{clocks_ok}
use Rattle.cmaf_read_chunk.proofs.EventLaws.{events-kept}
use Rattle.cmaf_read_facts.specs.Given.{BoxedEvent, AllBoxed}

-- each by itself; the rule on them is that they have a timescale
all-boxed : (c ws : List ℕ) (k i : ℕ) → clocks_ok (events_from c ws k i) ≡ true
    → ((j : ℕ) → j < i + k → ((event_at c ws j).timescale ≡ 0 → ⊥) → BoxedEvent (event_at c ws j)) → AllBoxed (events_from c ws k i)
unfolding events_from clocks_ok
all-boxed c ws zero i q h = tt
all-boxed c ws (suc k) i q h =
    (h i (omega arith) (eqb-false _ _ (not-true _ (left _ _ q))), all-boxed c ws k (suc i) (right _ _ q) (λ j lt. h j (omega arith)))

module _ (c : List ℕ) (k at : ℕ) (low : all_le 255 c ≡ true) (i : at ≤ length c) (ok : emsgs_ok c k at ≡ true) where
  -- the words of the events
  abbrev ws : List ℕ
  ws = kept_events c k at (emsg_words c k at)

  -- a part of a chunk of bytes
  text : (place size : ℕ) → all_le 255 (part c place size) ≡ true
  text place size = low-take 255 size (drop place c) (low-drop 255 place c low)

  pub events-boxed : clocks_ok (events_of c (emsg_words c k at) k) ≡ true → AllBoxed (events_of c (emsg_words c k at) k)
  unfolding event_at
  events-boxed q =
      let same : events_of c ws k ≡ events_of c (emsg_words c k at) k = events-kept c k at (emsg_words c k at) in
      subst AllBoxed same
      (all-boxed c ws k 0 (ap clocks_ok same ∙ q)
      (λ j lt d.
      let n : EventNumbers ws j = event-numbers c k at (emsg_words c k at) (bytes-are c low) i ok j (omega arith) in
      let p : EventIn c ws j = event-in c k at (emsg_words c k at) i ok (omega (arith, words-length c k at)) j (omega arith) in
      record {
        scale = d;
        scale-low = omega (arith, n.timescale);
        time = omega (arith, n.time);
        duration = omega (arith, n.duration);
        id = omega (arith, n.id);
        scheme = p.scheme-text;
        value = p.value-text;
        scheme-bytes = text (get_or ws (event_words * j) 0) (get_or ws (event_words * j + event_scheme_len) 0);
        value-bytes = text (get_or ws (event_words * j + event_value) 0) (get_or ws (event_words * j + event_value_len) 0);
        message-bytes = text (get_or ws (event_words * j + event_message) 0) (get_or ws (event_words * j + event_message_len) 0);
      }))
