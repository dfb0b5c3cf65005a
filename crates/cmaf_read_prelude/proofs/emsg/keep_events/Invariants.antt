-- `cmaf_read_prelude::emsg::keep_events` meets its contract, event by event.
use Rattle.cmaf_read_prelude.proofs.EventLaws.{Keeping}
use Rattle.cmaf_read_prelude.proofs.emsg.keep_events.Given as goal

abbrev pub invariant-loop-i : goal.invariant-loop-i
invariant-loop-i l = Keeping l.c l.k l.at l.initial.events l.events l.p l.i
