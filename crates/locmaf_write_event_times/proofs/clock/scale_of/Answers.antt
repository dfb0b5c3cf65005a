-- `locmaf_write_event_times::clock::scale_of` meets its contract: by the test.
use Rattle.locmaf_write_event_times.proofs.NumberLaws.{scale-track, scale-own}
use Rattle.locmaf_write_event_times.proofs.clock.scale_of.Goals as goal

pub returns-then-scale-t : goal.returns-then-scale-t
returns-then-scale-t c = scale-track _ _ c.if-scale-t.true

pub returns : goal.returns
returns c = scale-own _ _ c.if-scale-t.false
