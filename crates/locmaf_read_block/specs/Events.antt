-- What the records of an emsg list hold, apart from where they stand.
use Rattle.std.specs.Prelude.{ℕ, List, map, Option, option_map}
use Rattle.wire.specs.declared.form.Row.{Row}
use Rattle.locmaf_read_block.specs.declared.records.Record.{Record}
use Rattle.locmaf_read_block.specs.Records.{records_f}
use Rattle.locmaf_read_block.specs.Tuples.{bytes_of}
use Rattle.block_items.specs.Events.{Event}

-- ==== The rules

-- what a record of the list s holds
unfoldable pub event_of : List ℕ → Record → Event
event_of s r =
    record {
      scheme = bytes_of s r.scheme;
      value = bytes_of s r.value;
      timescale = r.timescale;
      time = r.time;
      duration = r.duration;
      id = r.id;
      message = bytes_of s r.message;
    }

-- the events of a list, none where a record is cut: a function of id 25's bytes alone
unfoldable pub events_f : List Row → List ℕ → Option (List Event)
events_f F bs = option_map (map (event_of bs)) (records_f F 0 bs)
