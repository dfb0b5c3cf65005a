-- `locmaf_write_events::records::put_record` meets its contract: its parts one after another.
use Rattle.laws.proofs.PartLaws.{parts-room, parts_then, parts_none}
use Rattle.wire.specs.Form.{rows}
use Rattle.event_value.specs.Events.{event_at}
use Rattle.locmaf_write_events.specs.Records.{sent}
use Rattle.locmaf_write_events.proofs.RecordLaws.{record-left}
use Rattle.locmaf_write_events.proofs.records.put_record.Goals as goal

pub put_text-a-requires : goal.put_text-a-requires
put_text-a-requires c =
    let a = c.args in
    let whole = record-left (rows a.form) a.t a.bmdt.0 a.c.now a.event.now 0 a.out.now a.at c.requires.event_in_bounds in
    record { n_in_bounds = c.requires.event_words.1.scheme; n_in_bounds_2 = parts-room whole }

pub put_text-b-requires : goal.put_text-b-requires
put_text-b-requires c =
    let a = c.args in
    let whole = record-left (rows a.form) a.t a.bmdt.0 a.c.now a.event.now 0 a.out.now a.at c.requires.event_in_bounds in
    record { n_in_bounds = c.requires.event_words.1.value; n_in_bounds_2 = parts-room (parts_then whole c.put_text-a.ensures) }

pub put_marks-d-requires : goal.put_marks-d-requires
unfolding sent event_at
put_marks-d-requires c =
    let a = c.args in
    let whole = record-left (rows a.form) a.t a.bmdt.0 a.c.now a.event.now 0 a.out.now a.at c.requires.event_in_bounds in
    let k = parts_then (parts_then whole c.put_text-a.ensures) c.put_text-b.ensures in
    record { event_words = c.requires.event_words.0; event_bound = c.requires.event_bound; event_in_bounds = parts-room k }

pub put_text-requires : goal.put_text-requires
put_text-requires c =
    let a = c.args in
    let whole = record-left (rows a.form) a.t a.bmdt.0 a.c.now a.event.now 0 a.out.now a.at c.requires.event_in_bounds in
    let k = parts_then (parts_then (parts_then whole c.put_text-a.ensures) c.put_text-b.ensures) c.put_marks-d.ensures in
    record { n_in_bounds = c.requires.event_words.1.message; n_in_bounds_2 = parts-room k }

pub returns : goal.returns
returns c =
    let a = c.args in
    let whole = record-left (rows a.form) a.t a.bmdt.0 a.c.now a.event.now 0 a.out.now a.at c.requires.event_in_bounds in
    let k = parts_then (parts_then (parts_then whole c.put_text-a.ensures) c.put_text-b.ensures) c.put_marks-d.ensures in
    parts_none (parts_then k c.put_text.ensures)
