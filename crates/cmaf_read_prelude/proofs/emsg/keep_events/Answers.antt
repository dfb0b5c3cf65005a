use native.Mathlib.Omega.{arith}
use Rattle.cmaf_read_prelude.proofs.EmsgLaws.{emsg-lies}
use Rattle.cmaf_read_prelude.proofs.EventLaws.{keeping_start, keeping-ok, keeping-next, keeping-end}
use borrow.Author.Rules.{rules}
use Rattle.cmaf_read_prelude.proofs.emsg.keep_events.Goals as goal

pub loop-i-init : goal.loop-i-init
loop-i-init c = keeping_start _ _ _ _ c.requires.at_in_bounds.0 c.requires.at_in_bounds.1 c.requires.k_in_bounds

pub keep_event-requires : goal.keep_event-requires
keep_event-requires c = let h = c.loop-i.invariant in record { inside = emsg-lies _ _ _ c.box_at-b.ensures h.within; b_value = (keeping-ok _ _ _ _ _ _ _ h c.loop-i-test.true _ c.box_at-b.ensures, omega (arith, h.room, c.loop-i-test.true)) }

pub end_of-p-requires : goal.end_of-p-requires
end_of-p-requires c =
    let n = (emsg-lies _ _ _ c.box_at-b.ensures c.loop-i.invariant.within).within in
    search rules

pub loop-i-preserved : goal.loop-i-preserved
loop-i-preserved c = keeping-next _ _ _ _ _ _ _ c.loop-i.invariant c.loop-i-test.true _ _ _ c.box_at-b.ensures c.end_of-p.ensures c.keep_event.ensures

pub shape_of-events : goal.shape_of-events
shape_of-events c = c.loop-i.invariant.same

pub returns : goal.returns
returns c = keeping-end _ _ _ _ _ _ _ c.loop-i.invariant c.loop-i-test.false
