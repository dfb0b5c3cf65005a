use Rattle.laws.proofs.LeftLaws.{left-same}
use mathlib.Core.Path.{ap}
use borrow.Author.Rules.{rules}
use Rattle.laws.proofs.WriteLaws.{wrote_as}
use Rattle.wire.specs.Form.{rows}
use Rattle.block_items.specs.Events.{enc_event}
use Rattle.event_value.specs.Events.{Event}
use Rattle.locmaf_write_events.specs.Records.{sent}
use Rattle.event_value.proofs.LentLaws.{lent-event}
use Rattle.locmaf_write_events.proofs.LentLaws.{lent-words, lent-in}
use Rattle.locmaf_write_events.proofs.WriteLoop.{writing-all, writing-fits, writing-room, writing-next, writing-end}
use Rattle.locmaf_write_events.proofs.records.put_records.Goals as goal

pub loop-i-init : goal.loop-i-init
loop-i-init c = writing-all _ _ _ _ _ _ _ _ c.requires.k_value c.requires.k_in_bounds

pub overflow_mul-from : goal.overflow_mul-from
overflow_mul-from c = let e = (c.requires.all_words.0.each _ c.loop-i-test.true).there in search rules

pub overflow_add-from : goal.overflow_add-from
overflow_add-from c = let e = (c.requires.all_words.0.each _ c.loop-i-test.true).there in search rules

pub offset_bounds-events-from : goal.offset_bounds-events-from
offset_bounds-events-from c = let e = (c.requires.all_words.0.each _ c.loop-i-test.true).there in search rules

pub slice_bounds-put_record-start : goal.slice_bounds-put_record-start
slice_bounds-put_record-start c = let e = (c.requires.all_words.0.each _ c.loop-i-test.true).there in search rules

pub slice_bounds-put_record-end : goal.slice_bounds-put_record-end
slice_bounds-put_record-end c = let e = (c.requires.all_words.0.each _ c.loop-i-test.true).there in search rules

pub put_record-p-requires : goal.put_record-p-requires
put_record-p-requires c =
    let lt = c.loop-i-test.true in
    let h = c.loop-i.invariant in
    let a = c.args in
    let e = c.requires.all_words.0.each _ c.loop-i-test.true in
    let v = lent-event a.events.now c.loop-i.i e.there a.c.now in record { event_words = (lent-words _ _ e.there e, lent-in _ _ e.there _ (c.requires.all_words.1 _ lt)); event_bound = rw v (writing-fits _ _ _ _ _ _ _ _ _ _ _ h lt); event_in_bounds = rw v (writing-room _ _ _ _ _ _ _ _ _ _ _ h lt) }

pub loop-i-preserved : goal.loop-i-preserved
loop-i-preserved c =
    let a = c.args in
    let v = lent-event a.events.now c.loop-i.i (c.requires.all_words.0.each _ c.loop-i-test.true).there a.c.now in
    writing-next _ _ _ _ _ _ _ _ _ _ _ c.loop-i.invariant _ _ c.loop-i-test.true
    (wrote_as (ap (λ (e : Event). enc_event (rows a.form) (sent a.t a.bmdt.0 e)) v) c.put_record-p.ensures)

pub shape_of-out : goal.shape_of-out
shape_of-out c = left-same c.loop-i.invariant.left

pub returns : goal.returns
returns c = writing-end _ _ _ _ _ _ _ _ _ _ _ c.loop-i.invariant c.loop-i-test.false
