-- `encoder::properties::put_events` meets its contract: nothing, or a head and the records.
use Rattle.laws.proofs.PartLaws.{parts_all, parts-room, parts_then, parts_none}
use Rattle.wire.specs.Form.{rows}
use Rattle.encoder.proofs.EventLaws.{times-fit, events-none, event_parts, event-parts}
use Rattle.locmaf_write_tuples.proofs.PutLaws.{put-none}
use Rattle.encoder.proofs.properties.put_events.Goals as goal

pub returns-then-count-eq0 : goal.returns-then-count-eq0
returns-then-count-eq0 c = put-none _ _ _ (events-none c.args.form c.requires.recorded c.if-count-eq0.true) c.requires.room_for

pub put_head-a-requires : goal.put_head-a-requires
put_head-a-requires c =
    let a = c.args in
    let n = c.requires in
    let begun =
    parts_all a.out.now a.at (event_parts (rows a.form) a.t a.bmdt.0 a.c.now a.ws.now a.count a.list)
    (event-parts a.form n.recorded c.if-count-eq0.false n.count_value) n.room_for in
    parts-room begun

pub put_records-requires : goal.put_records-requires
put_records-requires c =
    let a = c.args in
    let n = c.requires in
    let begun =
    parts_all a.out.now a.at (event_parts (rows a.form) a.t a.bmdt.0 a.c.now a.ws.now a.count a.list)
    (event-parts a.form n.recorded c.if-count-eq0.false n.count_value) n.room_for in
    let h = c.requires.recorded in
    record {
      all_words = (h.words, h.inside);
      k_value = times-fit c.args.form h c.if-count-eq0.false c.requires.count_value;
      k_in_bounds = parts-room (parts_then begun c.put_head-a.ensures);
    }

pub returns : goal.returns
returns c =
    let a = c.args in
    let n = c.requires in
    let begun =
    parts_all a.out.now a.at (event_parts (rows a.form) a.t a.bmdt.0 a.c.now a.ws.now a.count a.list)
    (event-parts a.form n.recorded c.if-count-eq0.false n.count_value) n.room_for in
    parts_none (parts_then (parts_then begun c.put_head-a.ensures) c.put_records.ensures)
