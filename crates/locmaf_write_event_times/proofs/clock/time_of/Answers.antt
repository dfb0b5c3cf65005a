-- `locmaf_write_event_times::clock::time_of` meets its contract: by the test.
use Rattle.locmaf_write_event_times.proofs.NumberLaws.{clock-track, clock-own}
use Rattle.locmaf_write_event_times.proofs.clock.time_of.Goals as goal

pub returns-then-scale-t : goal.returns-then-scale-t
returns-then-scale-t c = clock-track _ _ _ c.if-scale-t.true

pub returns : goal.returns
returns c = clock-own _ _ _ c.if-scale-t.false
