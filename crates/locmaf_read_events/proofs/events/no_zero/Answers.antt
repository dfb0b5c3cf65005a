use Rattle.locmaf_read_events.proofs.EventLaws.{look-start, look-more, look-end}
use Rattle.locmaf_read_events.proofs.events.no_zero.Goals as goal

pub loop-i-init : goal.loop-i-init
loop-i-init c = look-start _ _ _ c.requires

pub loop-i-preserved : goal.loop-i-preserved
loop-i-preserved c = look-more _ _ _ _ _ c.loop-i.invariant c.loop-i-test.true

pub returns : goal.returns
returns c = look-end _ _ _ _ _ c.loop-i.invariant c.loop-i-test.false
