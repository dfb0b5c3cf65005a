-- `locmaf_read_events::events::rebuild` meets its contract, by the laws of `proofs/EventLaws.antt`.
use native.Mathlib.Omega.{arith}
use lib.ListN.{length-set}
use Rattle.locmaf_read_events.proofs.EventLaws.{own-clock, time-outside, time-at}
use Rattle.locmaf_read_events.proofs.events.rebuild.Goals as goal

pub returns-then-event-ne0 : goal.returns-then-event-ne0
returns-then-event-ne0 c = let h = own-clock c.args.t _ _ c.if-event-ne0.true in record { value = h.0; event_after = h.1 }

pub returns-in_default : goal.returns-in_default
returns-in_default c =
    let h = time-outside c.args.t _ _ c.if-event-ne0.false c.in_default.ensures in
    record { value = h.0; event_after = h.1 }

pub bounds-event-5-2 : goal.bounds-event-5-2
bounds-event-5-2 c = simp length-set (omega arith)

pub returns : goal.returns
returns c =
    let h = time-at c.args.t _ _ c.if-event-ne0.false _ c.in-Some.ensures in
    record { value = h.0; event_after = h.1 }
