use borrow.Author.Rules.{rules}
use native.Mathlib.Omega.{arith}
use Rattle.locmaf_read_events.proofs.EventLaws.{read-start, read_next, read-end, lent-long, lent-scheme, lent-value}
use Rattle.locmaf_read_events.proofs.events.events_ok.Goals as goal

pub loop-i-init : goal.loop-i-init
loop-i-init c = read-start _ _ _ _ _ c.requires.events_len c.requires.events_fit

pub overflow_mul-p : goal.overflow_mul-p
overflow_mul-p c = let e = (c.loop-i.invariant.fits.each _ c.loop-i-test.true).there in search rules

pub overflow_add-p : goal.overflow_add-p
overflow_add-p c = let e = (c.loop-i.invariant.fits.each _ c.loop-i-test.true).there in search rules

pub offset_bounds-events-p : goal.offset_bounds-events-p
offset_bounds-events-p c = let e = (c.loop-i.invariant.fits.each _ c.loop-i-test.true).there in search rules

pub slice_bounds-event_ok-start : goal.slice_bounds-event_ok-start
slice_bounds-event_ok-start c = let e = (c.loop-i.invariant.fits.each _ c.loop-i-test.true).there in search rules

pub slice_bounds-event_ok-end : goal.slice_bounds-event_ok-end
slice_bounds-event_ok-end c = let e = (c.loop-i.invariant.fits.each _ c.loop-i-test.true).there in search rules

pub event_ok-ok-requires : goal.event_ok-ok-requires
event_ok-ok-requires c =
    let e = c.loop-i.invariant.fits.each _ c.loop-i-test.true in
    record { event_words_in_bounds = lent-long _ _ _ e; inside = lent-scheme _ _ _ e; inside_2 = lent-value _ _ _ e }

pub loop-i-preserved : goal.loop-i-preserved
loop-i-preserved c = read_next _ _ _ _ _ _ _ _ c.loop-i.invariant c.loop-i-test.true _ _ c.event_ok-ok.ensures

pub shape_of-events : goal.shape_of-events
shape_of-events c = omega (arith, c.loop-i.invariant.long, c.requires.events_len)

pub returns : goal.returns
returns c = read-end _ _ _ _ _ _ _ _ c.loop-i.invariant c.loop-i-test.false
