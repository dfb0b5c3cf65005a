-- Id 25: events, weighed and written by their words. Assumes nothing.
use Prim.Native.Nat.{ℕ, zero, suc, ◌+◌, ◌≤◌, ◌<◌}
use native.Mathlib.Omega.{arith}
use mathlib.Core.Path.{◌≡◌, refl, sym, ◌∙◌, ap}
use mathlib.Core.Bool.{Bool, true, false, cond, not}
use borrow.Author.Tests.{not-true, not-false}
use mathlib.Core.List.{List, [], ◌∷◌, ◌++◌}
use Rattle.std.specs.Prelude.{Some, None}
use lib.ListN.{length}
use Rattle.constants.specs.Maxima.{event_bytes_most}
use Rattle.laws.proofs.PartLaws.{joined}
use Rattle.wire.specs.declared.form.Row.{Row}
use Rattle.wire.specs.declared.form.Form.{Form}
use Rattle.wire.specs.Form.{rows, limit}
use Rattle.wire.specs.Varint.{encode, size_of}
use Rattle.wire.proofs.SizeLaws.{limit-62}
use Rattle.laws.specs.Options.{is_some}
use Rattle.block_items.specs.Events.{Event, enc_events}
use Rattle.block_items.specs.Items.{run}
use Rattle.track.specs.declared.Track.{Track}
use Rattle.event_value.specs.Events.{events_from, events_of}
use Rattle.locmaf_write_events.specs.Records.{all_sent, sent_of, times_fit}
use Rattle.locmaf_write_events.proofs.ListLaws.{times-any, encoded-bytes}
use Rattle.locmaf_write_tuples.specs.Items.{Items, nothing, bytes_of, pair_most, WeighedAs}
use Rattle.locmaf_write_tuples.proofs.ItemLaws.{run-parts, block_one, run_length, weighed-fit, weighed-unfit}
use Rattle.encoder.specs.Object.{event_items}
use Rattle.encoder.specs.Planned.{Recorded}

-- ---- the items, by the events

abbrev items_for : List Row → List Event → Items
items_for F es = cond (times_fit F es) (Some (run 25 (enc_events F es) ∷ [])) None

none-items : (F : List Row) (t : Track) (bmdt : ℕ) (c ws : List ℕ) (n : ℕ) → n ≡ 0 → event_items F (all_sent t bmdt (events_of c ws n)) ≡ nothing
unfolding event_items events_from
none-items F t bmdt c ws n e = rw e

some-items : (F : List Row) (t : Track) (bmdt : ℕ) (c ws : List ℕ) (n : ℕ) → (n ≡ 0 → ⊥)
    → event_items F (all_sent t bmdt (events_of c ws n)) ≡ items_for F (all_sent t bmdt (events_of c ws n))
unfolding event_items events_from
some-items F t bmdt c ws zero e = absurd (e refl)
some-items F t bmdt c ws (suc n) e = refl

fit_is : (b : Bool) (is : Items) → is_some is ≡ true → is_some (cond b is None) ≡ b
fit_is true is e = e
fit_is false is e = refl

-- a head, and the records
abbrev pub event_parts : List Row → Track → ℕ → List ℕ → List ℕ → ℕ → ℕ → List (List ℕ)
event_parts F t bmdt c ws n list = (encode F 25 ++ encode F list) ∷ enc_events F (all_sent t bmdt (events_of c ws n)) ∷ []

module _ (form : Form) {t : Track} {bmdt : ℕ} {c ws : List ℕ} {k list : ℕ} (h : Recorded (rows form) t bmdt c ws k list) where
  abbrev F : List Row
  F = rows form

  -- the events as their words have them
  abbrev es : List Event
  es = sent_of t bmdt c ws k

  -- none stand
  pub events-none : k ≡ 0 → event_items F es ≡ nothing
  events-none e = none-items F t bmdt c ws k e

  -- some stand
  module _ (e : k ≡ 0 → ⊥) where
    items-are : event_items F es ≡ items_for F es
    items-are = some-items F t bmdt c ws k e

    fits-are : is_some (event_items F es) ≡ times_fit F es
    fits-are = ap is_some items-are ∙ fit_is (times_fit F es) (Some (run 25 (enc_events F es) ∷ [])) refl

    -- all times fit
    module _ (fit : is_some (event_items F es) ≡ true) where
      pub times-fit : times_fit F es ≡ true
      times-fit = sym fits-are ∙ fit

      list-long : length (enc_events F es) ≡ list
      list-long = encoded-bytes form t bmdt c ws k h.words h.inside times-fit ∙ sym h.list-is

      bytes-are : bytes_of F (event_items F es) ≡ bytes_of F (Some (run 25 (enc_events F es) ∷ []))
      bytes-are = ap (bytes_of F) (items-are ∙ ap (λ (b : Bool). cond b (Some (run 25 (enc_events F es) ∷ [])) None) times-fit)

      -- their bytes as they are written
      pub event-parts : joined (event_parts F t bmdt c ws k list) ≡ bytes_of F (event_items F es)
      event-parts =
          ap (λ (n : ℕ). (encode F 25 ++ encode F n) ++ enc_events F es) (sym list-long)
          ∙ run-parts F 25 (enc_events F es)
          ∙ sym bytes-are

      events-bytes : length (bytes_of F (event_items F es)) ≡ size_of F 25 + (size_of F list + list)
      events-bytes =
          let p : 25 < limit F = omega (arith, limit-62 form) in
          let q : length (enc_events F es) < limit F = omega (arith, limit-62 form, list-long, h.short) in
          ap length bytes-are
          ∙ ap length (block_one F (run 25 (enc_events F es)))
          ∙ run_length F 25 (enc_events F es) p q
          ∙ ap (λ (i : ℕ). size_of F 25 + (size_of F i + i)) list-long

    -- their weight
    events-fit : {b : Bool} → b ≡ times_fit F (sent_of t bmdt [] ws k) → is_some (event_items F es) ≡ b
    events-fit f = sym (f ∙ sym (times-any F t bmdt c ws k) ∙ sym fits-are)

    pub events-wide : {b : Bool} → b ≡ times_fit F (sent_of t bmdt [] ws k) → not b ≡ true
        → WeighedAs F (event_items F es) (pair_most + event_bytes_most) None
    events-wide f n = weighed-unfit (events-fit f ∙ not-true _ n)

    pub events-weighed : {b : Bool} {n : ℕ} → b ≡ times_fit F (sent_of t bmdt [] ws k) → not b ≡ false
        → (n ≡ size_of F 25 + (size_of F list + list)) × (n ≤ 16 + list)
        → WeighedAs F (event_items F es) (pair_most + event_bytes_most) (Some n)
    events-weighed f y g =
        let s = events-fit f ∙ not-false _ y in
        weighed-fit s (g.0 ∙ sym (events-bytes s)) (omega (arith, g.1, h.short))
