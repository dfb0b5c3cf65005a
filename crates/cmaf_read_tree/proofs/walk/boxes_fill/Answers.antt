use Rattle.cmaf_read_tree.proofs.HeadLaws.{head_at}
use Rattle.cmaf_read_tree.proofs.PlaceLaws.{passed_none, passed-all, passed-broken, fills-boxwise, fills-on}
use Rattle.cmaf_read_tree.proofs.walk.boxes_fill.Goals as goal

pub loop-at-init : goal.loop-at-init
loop-at-init c = passed_none _

pub returns-in_default : goal.returns-in_default
returns-in_default c = passed-broken fills-boxwise c.loop-at.invariant c.loop-at-test.true c.in_default.ensures.head

pub loop-at-preserved : goal.loop-at-preserved
loop-at-preserved c = fills-on (head_at _ _ _ _ c.in-Some.ensures.head) c.loop-at.invariant

pub returns : goal.returns
returns c = passed-all fills-boxwise c.loop-at.invariant c.loop-at-test.false
