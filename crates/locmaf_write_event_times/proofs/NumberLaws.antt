-- The numbers of a record: its timescale and time by the event's clock. Assumes nothing.
use Prim.Native.Nat.{ℕ, ◌≤◌}
use native.Mathlib.Omega.{arith}
use mathlib.Core.Path.{◌≡◌, ap}
use mathlib.Core.Bool.{Bool, true, false, cond}
use mathlib.Core.List.{List}
use borrow.Author.Tests.{eq-eqb, ne_eqb}
use lib.Dec.{eqb}
use Rattle.wire.specs.declared.form.Row.{Row}
use Rattle.wire.specs.declared.zigzag.Coding.TheVariants.{Plain, Delta}
use Rattle.wire.specs.Zigzag.{wire_of, fitted, code_of}
use Rattle.media.specs.declared.clocks.TrackTicks.{TrackTicks}
use Rattle.media.specs.declared.clocks.EventTicks.{EventTicks}
use Rattle.media.specs.declared.clocks.EventTime.{EventTime}
use Rattle.track.specs.declared.Track.{Track}
use Rattle.locmaf_write_event_times.specs.Times.{scale_for, clock_of, wire_time, time_for}

-- on the track's clock, and on the event's own
module _ (t : Track) (scale : ℕ) where
  pub scale-track : scale ≡ t.timescale → 0 ≡ scale_for t scale
  unfolding scale_for
  scale-track e = rw (eq-eqb _ _ e)

  pub scale-own : (scale ≡ t.timescale → ⊥) → scale ≡ scale_for t scale
  unfolding scale_for
  scale-own e = rw (ne_eqb _ _ e)

  -- the timescale of a record is no larger than the event's
  pub scale-most : scale_for t scale ≤ scale
  unfolding scale_for
  scale-most = go (eqb scale t.timescale)
    where
      go : (b : Bool) → cond b 0 scale ≤ scale
      go true = omega arith
      go false = omega arith

  module _ (time : ℕ) where
    pub clock-track : scale ≡ t.timescale → EventTime.Track (record { 0 = time }) ≡ clock_of t scale time
    unfolding clock_of
    clock-track e = rw (eq-eqb _ _ e)

    pub clock-own : (scale ≡ t.timescale → ⊥) → EventTime.Own (record { 0 = time }) ≡ clock_of t scale time
    unfolding clock_of
    clock-own e = rw (ne_eqb _ _ e)

    -- the number on the wire by the clock that was found
    module _ (F : List Row) (bmdt : ℕ) where
      pub time-track : (x : TrackTicks) → EventTime.Track x ≡ clock_of t scale time → code_of F Delta bmdt x.0 ≡ fitted F (time_for t bmdt scale time)
      unfolding code_of time_for wire_time
      time-track x e = ap (λ (c : EventTime). fitted F (wire_time bmdt c)) e

      pub time-own : (x : EventTicks) → EventTime.Own x ≡ clock_of t scale time → code_of F Plain 0 x.0 ≡ fitted F (time_for t bmdt scale time)
      unfolding code_of time_for wire_time wire_of
      time-own x e = ap (λ (c : EventTime). fitted F (wire_time bmdt c)) e
