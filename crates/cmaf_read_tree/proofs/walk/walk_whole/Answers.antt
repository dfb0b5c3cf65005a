use mathlib.Core.Path.{sym, ◌∙◌}
use Rattle.cmaf_read_tree.proofs.HeadLaws.{head_at}
use Rattle.cmaf_read_tree.proofs.PlaceLaws.{passed_none, passed-all, passed-broken, whole-boxwise, leaf-on, into-off, into-on}
use Rattle.cmaf_read_tree.proofs.walk.walk_whole.Goals as goal

pub loop-at-init : goal.loop-at-init
loop-at-init c = passed_none _

pub returns-in_default : goal.returns-in_default
returns-in_default c = passed-broken whole-boxwise c.loop-at.invariant c.loop-at-test.true c.in_default.ensures.head

pub loop-at-preserved-then-not-is_container : goal.loop-at-preserved-then-not-is_container
loop-at-preserved-then-not-is_container c = leaf-on (head_at _ _ _ _ c.in-Some.ensures.head) c.loop-at.invariant (sym c.is_container.ensures ∙ c.if-not-is_container.true)

pub returns-then-not-boxes_fill : goal.returns-then-not-boxes_fill
returns-then-not-boxes_fill c =
    into-off (head_at _ _ _ _ c.in-Some.ensures.head) c.loop-at.invariant (sym c.is_container.ensures ∙ c.if-not-is_container.false)
    (sym c.boxes_fill.ensures ∙ c.if-not-boxes_fill.true)

pub loop-at-preserved : goal.loop-at-preserved
loop-at-preserved c =
    into-on (head_at _ _ _ _ c.in-Some.ensures.head) c.loop-at.invariant (sym c.is_container.ensures ∙ c.if-not-is_container.false)
    (sym c.boxes_fill.ensures ∙ c.if-not-boxes_fill.false)

pub returns : goal.returns
returns c = passed-all whole-boxwise c.loop-at.invariant c.loop-at-test.false
