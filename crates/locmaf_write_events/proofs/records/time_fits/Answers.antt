-- `locmaf_write_events::records::time_fits` meets its contract: by whether a number was given.
use mathlib.Core.Path.{◌∙◌, ap}
use Rattle.std.specs.Option.{is_some}
use Rattle.event_value.specs.Events.{event_at}
use Rattle.locmaf_write_events.specs.Records.{sent}
use Rattle.locmaf_write_events.proofs.FitLoop.{fits-is}
use Rattle.locmaf_write_events.proofs.records.time_fits.Goals as goal

pub returns : goal.returns
unfolding sent event_at
returns c = c.is_some.ensures ∙ ap is_some c.time_number.ensures ∙ fits-is _ _
