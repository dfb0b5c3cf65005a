use native.Mathlib.Omega.{arith}
use mathlib.Core.Path.{◌∙◌, ap}
use borrow.Author.Rules.{rules}
use lib.ListN.{length}
use Rattle.event_value.specs.Events.{Event}
use Rattle.cmaf_write_emsg.specs.Emsg.{emsg_box}
use Rattle.event_value.proofs.LentLaws.{lent-event, lent_fits}
use Rattle.cmaf_write_emsg.proofs.LentLaws.{lent-short}
use Rattle.cmaf_write_emsg.proofs.EmsgLaws.{adding-none, adding-next, adding-end}
use Rattle.cmaf_write_emsg.proofs.emsg.emsgs_length.Goals as goal

pub loop-i-init : goal.loop-i-init
loop-i-init c = adding-none _ _

pub overflow_mul-from : goal.overflow_mul-from
overflow_mul-from c = let e = (c.requires.each _ c.loop-i-test.true).there in search rules

pub overflow_add-from : goal.overflow_add-from
overflow_add-from c = let e = (c.requires.each _ c.loop-i-test.true).there in search rules

pub offset_bounds-events-from : goal.offset_bounds-events-from
offset_bounds-events-from c = let e = (c.requires.each _ c.loop-i-test.true).there in search rules

pub slice_bounds-emsg_length-start : goal.slice_bounds-emsg_length-start
slice_bounds-emsg_length-start c = let e = (c.requires.each _ c.loop-i-test.true).there in search rules

pub slice_bounds-emsg_length-end : goal.slice_bounds-emsg_length-end
slice_bounds-emsg_length-end c = let e = (c.requires.each _ c.loop-i-test.true).there in search rules

pub emsg_length-sum-requires : goal.emsg_length-sum-requires
emsg_length-sum-requires c = let e = c.requires.each _ c.loop-i-test.true in lent-short _ _ e.there e

pub overflow_add-sum : goal.overflow_add-sum
overflow_add-sum c =
    let l = c.loop-i.invariant in
    omega (arith, l.small, l.within, c.requires.few)

pub loop-i-preserved : goal.loop-i-preserved
loop-i-preserved c =
    let ws = c.args.events.now in
    let i = c.loop-i.i in
    let h = (c.requires.each _ c.loop-i-test.true).there in
    adding-next _ _ _ _ c.loop-i.invariant _ c.loop-i-test.true
    (λ o f. c.emsg_length-sum.ensures.0 o (lent_fits ws i h o f) ∙ ap (λ (e : Event). length (emsg_box e)) (lent-event ws i h o))
    c.emsg_length-sum.ensures.1

pub returns : goal.returns
returns c = adding-end _ _ _ _ c.loop-i.invariant c.requires.few c.loop-i-test.false
