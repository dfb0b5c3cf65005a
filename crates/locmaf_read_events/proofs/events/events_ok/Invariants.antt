-- `locmaf_read_events::events::events_ok` meets its contract, by what is left to read from the loop's event on.
use Rattle.locmaf_read_events.proofs.EventLaws.{Reading}
use Rattle.locmaf_read_events.proofs.events.events_ok.Given as goal

abbrev pub invariant-loop-i : goal.invariant-loop-i
invariant-loop-i l = Reading l.t l.bmdt.0 l.o l.initial.events l.k l.events l.ok l.i
