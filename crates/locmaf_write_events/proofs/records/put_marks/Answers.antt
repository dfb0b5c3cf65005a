-- `locmaf_write_events::records::put_marks` meets its contract: the four numbers one after another.
use mathlib.Core.Path.{sym, ◌∙◌, ap}
use borrow.Author.Tests.{lt-ltb}
use Rattle.std.specs.Option.{is_some}
use Rattle.laws.proofs.PartLaws.{parts-room, parts_then, parts_none}
use Rattle.wire.specs.Form.{rows}
use Rattle.event_value.specs.Events.{event_at}
use Rattle.locmaf_write_events.specs.Records.{sent}
use Rattle.locmaf_write_events.proofs.FitLoop.{fits-is}
use Rattle.locmaf_write_events.proofs.RecordLaws.{marks-left}
use Rattle.wire.proofs.ZigzagLaws.{fitted-inv}
use Rattle.locmaf_write_events.proofs.records.put_marks.Goals as goal

pub unwrap-z-requires : goal.unwrap-z-requires
unfolding sent event_at
unwrap-z-requires c = ap is_some c.time_number.ensures ∙ fits-is _ _ ∙ lt-ltb _ _ c.requires.event_bound

pub put-a-requires : goal.put-a-requires
put-a-requires c =
    let a = c.args in
    let z = fitted-inv _ _ (sym c.time_number.ensures ∙ c.unwrap-z.ensures) in
    let whole = marks-left (rows a.form) a.t a.bmdt.0 a.event.now 0 _ _ c.scale_of.ensures z.0 a.out.now a.at c.requires.event_in_bounds in
    parts-room whole

pub put-b-requires : goal.put-b-requires
put-b-requires c =
    let a = c.args in
    let z = fitted-inv _ _ (sym c.time_number.ensures ∙ c.unwrap-z.ensures) in
    let whole = marks-left (rows a.form) a.t a.bmdt.0 a.event.now 0 _ _ c.scale_of.ensures z.0 a.out.now a.at c.requires.event_in_bounds in
    parts-room (parts_then whole c.put-a.ensures)

pub put-d-requires : goal.put-d-requires
put-d-requires c =
    let a = c.args in
    let z = fitted-inv _ _ (sym c.time_number.ensures ∙ c.unwrap-z.ensures) in
    let whole = marks-left (rows a.form) a.t a.bmdt.0 a.event.now 0 _ _ c.scale_of.ensures z.0 a.out.now a.at c.requires.event_in_bounds in
    parts-room (parts_then (parts_then whole c.put-a.ensures) c.put-b.ensures)

pub put-requires : goal.put-requires
put-requires c =
    let a = c.args in
    let z = fitted-inv _ _ (sym c.time_number.ensures ∙ c.unwrap-z.ensures) in
    let whole = marks-left (rows a.form) a.t a.bmdt.0 a.event.now 0 _ _ c.scale_of.ensures z.0 a.out.now a.at c.requires.event_in_bounds in
    parts-room (parts_then (parts_then (parts_then whole c.put-a.ensures) c.put-b.ensures) c.put-d.ensures)

pub returns : goal.returns
returns c =
    let a = c.args in
    let z = fitted-inv _ _ (sym c.time_number.ensures ∙ c.unwrap-z.ensures) in
    let whole = marks-left (rows a.form) a.t a.bmdt.0 a.event.now 0 _ _ c.scale_of.ensures z.0 a.out.now a.at c.requires.event_in_bounds in
    let k = parts_then (parts_then (parts_then whole c.put-a.ensures) c.put-b.ensures) c.put-d.ensures in
    parts_none (parts_then k c.put.ensures)
