-- `locmaf_read_events::events::event_ok` meets its contract: its tests are the definition's.
use Rattle.locmaf_read_events.proofs.EventLaws.{event-is}
use Rattle.locmaf_read_events.proofs.events.event_ok.Goals as goal

pub returns : goal.returns
returns c =
    record {
      answered =
          event-is _ _ c.args.event.now _ _ _ c.rebuild.ensures.value c.no_zero.ensures c.no_zero-2.ensures
          c.requires.inside c.requires.inside_2;
      stored = c.rebuild.ensures.event_after;
    }
