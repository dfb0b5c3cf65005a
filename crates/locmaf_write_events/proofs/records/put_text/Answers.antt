-- `locmaf_write_events::records::put_text` meets its contract: its length, and its bytes.
use Rattle.laws.proofs.PartLaws.{parts-room, parts_then, parts_none}
use Rattle.wire.specs.Form.{rows}
use Rattle.locmaf_write_events.proofs.RecordLaws.{text-left}
use Rattle.locmaf_write_events.proofs.records.put_text.Goals as goal

pub put-a-requires : goal.put-a-requires
put-a-requires c =
    let a = c.args in
    let whole = text-left a.c.now a.from a.n c.requires.n_in_bounds (rows a.form) a.out.now a.at c.requires.n_in_bounds_2 in
    parts-room whole

pub put_bytes-requires : goal.put_bytes-requires
put_bytes-requires c =
    let a = c.args in
    let whole = text-left a.c.now a.from a.n c.requires.n_in_bounds (rows a.form) a.out.now a.at c.requires.n_in_bounds_2 in
    parts-room (parts_then whole c.put-a.ensures)

pub returns : goal.returns
returns c =
    let a = c.args in
    let whole = text-left a.c.now a.from a.n c.requires.n_in_bounds (rows a.form) a.out.now a.at c.requires.n_in_bounds_2 in
    parts_none (parts_then (parts_then whole c.put-a.ensures) c.put_bytes.ensures)
