use mathlib.Core.Path.{◌∙◌, ap}
use mathlib.Core.List.{[]}
use lib.Dec.{ltb}
use borrow.Author.Rules.{rules}
use Rattle.wire.specs.Form.{rows, limit}
use Rattle.event_value.specs.Events.{Event}
use Rattle.locmaf_write_events.specs.Records.{sent}
use Rattle.event_value.proofs.LentLaws.{lent-event}
use Rattle.locmaf_write_events.proofs.LentLaws.{lent-words}
use Rattle.locmaf_write_events.proofs.FitLoop.{fitting-all, fitting-next, fitting-end}
use Rattle.locmaf_write_events.proofs.records.times_fit.Goals as goal

pub loop-i-init : goal.loop-i-init
loop-i-init c = fitting-all _ _ _ _ _

pub overflow_mul-p : goal.overflow_mul-p
overflow_mul-p c = let e = (c.requires.each _ c.loop-i-test.true).there in search rules

pub overflow_add-p : goal.overflow_add-p
overflow_add-p c = let e = (c.requires.each _ c.loop-i-test.true).there in search rules

pub offset_bounds-events-p : goal.offset_bounds-events-p
offset_bounds-events-p c = let e = (c.requires.each _ c.loop-i-test.true).there in search rules

pub slice_bounds-time_fits-start : goal.slice_bounds-time_fits-start
slice_bounds-time_fits-start c = let e = (c.requires.each _ c.loop-i-test.true).there in search rules

pub slice_bounds-time_fits-end : goal.slice_bounds-time_fits-end
slice_bounds-time_fits-end c = let e = (c.requires.each _ c.loop-i-test.true).there in search rules

pub time_fits-ok-requires : goal.time_fits-ok-requires
time_fits-ok-requires c = let e = c.requires.each _ c.loop-i-test.true in lent-words _ _ e.there e

pub loop-i-preserved : goal.loop-i-preserved
loop-i-preserved c =
    let a = c.args in
    let v = lent-event a.events.now c.loop-i.i (c.requires.each _ c.loop-i-test.true).there [] in
    fitting-next _ _ _ _ _ _ _ c.loop-i.invariant _ c.loop-i-test.true
    (c.time_fits-ok.ensures ∙ ap (λ (e : Event). ltb (sent a.t a.bmdt.0 e).time (limit (rows a.form))) v)

pub returns : goal.returns
returns c = fitting-end _ _ _ _ _ _ _ c.loop-i.invariant c.loop-i-test.false
