use Rattle.locmaf_write_block.proofs.SameLoop.{differ, compare-start, compare-next, compare-end}
use Rattle.locmaf_write_block.proofs.cells.same_list.Goals as goal

pub returns-then-a-b : goal.returns-then-a-b
returns-then-a-b c = differ _ _ c.if-a-b.true

pub loop-i-init : goal.loop-i-init
loop-i-init c = compare-start _ _ c.if-a-b.false

pub loop-i-preserved : goal.loop-i-preserved
loop-i-preserved c = compare-next _ _ _ _ c.loop-i.invariant c.loop-i-test.true

pub returns : goal.returns
returns c = compare-end _ _ _ _ c.loop-i.invariant c.loop-i-test.false
