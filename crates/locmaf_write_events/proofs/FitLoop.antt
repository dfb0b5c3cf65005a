-- The loop that tests whether times fit: what is left to be tested. Assumes nothing.
use Prim.Native.Nat.{ℕ, ◌+◌, ◌-◌, ◌≤◌, ◌<◌}
use native.Mathlib.Nat.{sub-zero}
use mathlib.Core.Path.{◌≡◌, refl, sym, ◌∙◌, ap}
use mathlib.Core.Bool.{Bool, true, false, cond, ◌&&◌}
use mathlib.Core.List.{List, []}
use lib.Dec.{ltb}
use Rattle.laws.specs.Tests.{◌and◌}
use Rattle.laws.proofs.TestLaws.{and-next, and-end}
use Rattle.wire.specs.declared.form.Row.{Row}
use Rattle.std.specs.Prelude.{Some, None}
use Rattle.std.specs.Option.{is_some}
use Rattle.wire.specs.Form.{limit}
use Rattle.wire.specs.Zigzag.{fitted}
use Rattle.track.specs.declared.Track.{Track}
use Rattle.event_value.specs.Events.{event_at, events_from, events_of}
use Rattle.locmaf_write_events.specs.Records.{sent, all_sent, times_fit}
use Rattle.locmaf_write_events.proofs.ListLaws.{sent-next, sent-end, fit-cons}

-- a number is given where the form can hold it
pub fits-is : (F : List Row) (z : ℕ) → is_some (fitted F z) ≡ ltb z (limit F)
unfolding fitted
fits-is F z = go (ltb z (limit F))
  where
    go : (b : Bool) → is_some (cond b (Some z) None) ≡ b
    go true = refl
    go false = refl

pub record Fitting (F : List Row) (t : Track) (bmdt : ℕ) (ws : List ℕ) (k : ℕ) (ok : Bool) (i : ℕ) : Type 0 where
  pub all : (ok and times_fit F (all_sent t bmdt (events_from [] ws (k - i) i))) ≡ times_fit F (all_sent t bmdt (events_of [] ws k))

module _ (F : List Row) (t : Track) (bmdt : ℕ) (ws : List ℕ) (k : ℕ) where
  pub fitting-all : Fitting F t bmdt ws k true 0
  unfolding ◌and◌
  fitting-all = record { all = rw sub-zero }

  module _ (ok : Bool) (i : ℕ) (h : Fitting F t bmdt ws k ok i) where
    pub fitting-next : (r : Bool) → i < k → r ≡ ltb (sent t bmdt (event_at [] ws i)).time (limit F) → Fitting F t bmdt ws k (ok && r) (i + 1)
    fitting-next r lt e =
        record {
          all =
              and-next ok r _
              ∙ ap (λ (b : Bool). ok and (b and times_fit F (all_sent t bmdt (events_from [] ws (k - (i + 1)) (i + 1))))) e
              ∙ ap (λ (b : Bool). ok and b) (sym (fit-cons F _ _) ∙ ap (times_fit F) (sym (sent-next t bmdt [] ws k i lt)))
              ∙ h.all;
        }

    pub fitting-end : k ≤ i → ok ≡ times_fit F (all_sent t bmdt (events_of [] ws k))
    unfolding times_fit
    fitting-end le = sym (and-end ok) ∙ rw (sent-end t bmdt [] ws k i le) at h.all
