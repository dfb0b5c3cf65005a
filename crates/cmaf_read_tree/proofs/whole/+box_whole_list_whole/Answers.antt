-- `cmaf_read_tree::whole::list_whole` and `cmaf_read_tree::whole::box_whole` meet their contracts, whatever the budget.
use native.Mathlib.Omega.{arith}
use mathlib.Core.Path.{sym, ◌∙◌}
use lib.ListN.{length-take, length-drop}
use Rattle.cmaf_read_tree.proofs.HeadLaws.{head_at}
use Rattle.cmaf_read_tree.proofs.PlaceLaws.{passed_none, passed-all, passed-broken, whole-boxwise, box-off, box-on, box-leaf, box-list}
use Rattle.cmaf_read_tree.proofs.whole.+box_whole_list_whole.Goals as goal

-- ---- the box check

pub box_whole-returns-then-not-is_container : goal.box_whole-returns-then-not-is_container
box_whole-returns-then-not-is_container t c =
    box-leaf c.args.b.now _ c.u32_at-kind.ensures.0 (sym c.is_container.ensures ∙ c.if-not-is_container.true)

pub box_whole-returns-then-budget-eq0 : goal.box_whole-returns-then-budget-eq0
box_whole-returns-then-budget-eq0 t c =
    box-list c.args.b.now _ c.u32_at-kind.ensures.0 (sym c.is_container.ensures ∙ c.if-not-is_container.false) c.walk_whole.ensures

-- the list inside a box is four bytes shorter than the box past its size field
pub box_whole-list_whole-requires : goal.box_whole-list_whole-requires
box_whole-list_whole-requires t c = (simp (length-take, length-drop) (omega arith), tt)

pub box_whole-returns : goal.box_whole-returns
box_whole-returns t c =
    box-list c.args.b.now _ c.u32_at-kind.ensures.0 (sym c.is_container.ensures ∙ c.if-not-is_container.false) c.list_whole.ensures

-- ---- the list check

pub list_whole-loop-at-init : goal.list_whole-loop-at-init
list_whole-loop-at-init t c = passed_none _

pub list_whole-returns-in_default : goal.list_whole-returns-in_default
list_whole-returns-in_default t c =
    passed-broken whole-boxwise c.loop-at.invariant c.loop-at-test.true c.in_default.ensures.head

pub list_whole-box_whole-requires : goal.list_whole-box_whole-requires
list_whole-box_whole-requires t c =
    let r = c.in-Some.ensures.room in
    (simp (length-take, length-drop) (omega (arith, r)), simp (length-take, length-drop) (omega (arith, r)))

pub list_whole-returns-then-not-box_whole : goal.list_whole-returns-then-not-box_whole
list_whole-returns-then-not-box_whole t c =
    box-off (head_at _ _ _ _ c.in-Some.ensures.head) c.loop-at.invariant (sym c.box_whole.ensures ∙ c.if-not-box_whole.true)

pub list_whole-loop-at-preserved : goal.list_whole-loop-at-preserved
list_whole-loop-at-preserved t c =
    box-on (head_at _ _ _ _ c.in-Some.ensures.head) c.loop-at.invariant (sym c.box_whole.ensures ∙ c.if-not-box_whole.false)

pub list_whole-returns : goal.list_whole-returns
list_whole-returns t c = passed-all whole-boxwise c.loop-at.invariant c.loop-at-test.false
