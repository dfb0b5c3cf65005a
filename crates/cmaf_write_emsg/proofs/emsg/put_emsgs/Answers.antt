use native.Mathlib.Nat.{sub-zero}
use native.Mathlib.Omega.{arith}
use mathlib.Core.Path.{ap}
use borrow.Author.Rules.{rules}
use lib.ListN.{length, length-append}
use Rattle.laws.proofs.LeftLaws.{left-all, left-none, left-room, left-same, left_less}
use Rattle.laws.proofs.WriteLaws.{wrote_as}
use Rattle.cmaf_write_emsg.specs.Emsg.{emsg_box}
use Rattle.event_value.proofs.LentLaws.{lent-event, lent_fits}
use Rattle.cmaf_write_emsg.proofs.EmsgLaws.{events-end, events-next}
use Rattle.cmaf_write_emsg.proofs.emsg.put_emsgs.Goals as goal

pub loop-i-init : goal.loop-i-init
loop-i-init c = (omega arith, rw sub-zero (left-all _ _ _ c.requires.k_in_bounds))

pub overflow_mul-from : goal.overflow_mul-from
overflow_mul-from c = let e = (c.requires.events_fit.each _ c.loop-i-test.true).there in search rules

pub overflow_add-from : goal.overflow_add-from
overflow_add-from c = let e = (c.requires.events_fit.each _ c.loop-i-test.true).there in search rules

pub offset_bounds-events-from : goal.offset_bounds-events-from
offset_bounds-events-from c = let e = (c.requires.events_fit.each _ c.loop-i-test.true).there in search rules

pub slice_bounds-put_emsg-start : goal.slice_bounds-put_emsg-start
slice_bounds-put_emsg-start c = let e = (c.requires.events_fit.each _ c.loop-i-test.true).there in search rules

pub slice_bounds-put_emsg-end : goal.slice_bounds-put_emsg-end
slice_bounds-put_emsg-end c = let e = (c.requires.events_fit.each _ c.loop-i-test.true).there in search rules

pub put_emsg-p-requires : goal.put_emsg-p-requires
put_emsg-p-requires c =
    let a = c.args in
    let i = c.loop-i.i in
    let f = c.requires.events_fit.each _ c.loop-i-test.true in
    let n = ap length (events-next a.o.now a.events.now a.k i c.loop-i-test.true) in
    record { event_fits = lent_fits _ _ f.there _ f; event_in_bounds = rw (lent-event a.events.now i f.there a.o.now) (omega (arith, left-room c.loop-i.invariant.1, simp length-append at n)) }

pub loop-i-preserved : goal.loop-i-preserved
loop-i-preserved c =
    let a = c.args in
    let i = c.loop-i.i in (
      omega arith,
      left_less c.loop-i.invariant.1 _ (events-next a.o.now a.events.now a.k i c.loop-i-test.true)
          (wrote_as (ap emsg_box (lent-event a.events.now i (c.requires.events_fit.each _ c.loop-i-test.true).there a.o.now)) c.put_emsg-p.ensures),
    )

pub shape_of-out : goal.shape_of-out
shape_of-out c = left-same c.loop-i.invariant.1

pub returns : goal.returns
returns c =
    let a = c.args in
    left-none c.loop-i.invariant.1 (events-end a.o.now a.events.now a.k c.loop-i.i c.loop-i-test.false)
