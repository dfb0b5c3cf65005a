use Rattle.cmaf_read_samples.proofs.SizeLaws.{compare-start, compare-next, compare-end}
use Rattle.cmaf_read_samples.proofs.sizes.all_equal.Goals as goal

pub loop-i-init : goal.loop-i-init
loop-i-init c = compare-start _ _

pub loop-i-preserved : goal.loop-i-preserved
loop-i-preserved c = compare-next _ _ _ _ c.loop-i.invariant c.loop-i-test.true c.size_at.ensures.0 c.size_at-in-loop-i.ensures.0

pub returns : goal.returns
returns c = compare-end _ _ _ _ _ c.loop-i.invariant c.loop-i-test.false
