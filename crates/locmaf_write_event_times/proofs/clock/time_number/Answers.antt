-- `locmaf_write_event_times::clock::time_number` meets its contract: by the clock of the time.
use mathlib.Core.Path.{sym, ◌∙◌}
use Rattle.locmaf_write_event_times.proofs.NumberLaws.{time-track, time-own}
use Rattle.locmaf_write_event_times.proofs.clock.time_number.Goals as goal

pub returns-in-Track : goal.returns-in-Track
returns-in-Track c = c.code.ensures ∙ time-track _ _ _ _ _ _ (sym c.in-Track.is ∙ c.time_of-at.ensures)

pub returns-in-Own : goal.returns-in-Own
returns-in-Own c = c.code-in-Own.ensures ∙ time-own _ _ _ _ _ _ (sym c.in-Own.is ∙ c.time_of-at.ensures)
