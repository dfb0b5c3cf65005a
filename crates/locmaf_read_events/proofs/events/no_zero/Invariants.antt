-- `locmaf_read_events::events::no_zero` meets its contract, by what is left to look at from the loop's place on.
use Rattle.locmaf_read_events.proofs.EventLaws.{Looking}
use Rattle.locmaf_read_events.proofs.events.no_zero.Given as goal

abbrev pub invariant-loop-i : goal.invariant-loop-i
invariant-loop-i l = Looking l.o l.from l.to l.ok l.i
