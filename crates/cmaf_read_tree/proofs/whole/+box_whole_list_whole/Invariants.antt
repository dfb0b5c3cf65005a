-- `cmaf_read_tree::whole::list_whole` and `cmaf_read_tree::whole::box_whole`: the bytes that are left fall at each call, whatever the budget.
use Prim.Native.Nat.{◌-◌}
use lib.ListN.{length}
use Rattle.cmaf_read_tree.specs.Whole.{whole}
use Rattle.cmaf_read_tree.proofs.PlaceLaws.{Passed}
use Rattle.cmaf_read_tree.proofs.whole.+box_whole_list_whole.Given as goal

abbrev pub decreases-box_whole : goal.decreases-box_whole
decreases-box_whole l = length l.b.now

abbrev pub decreases-list_whole : goal.decreases-list_whole
decreases-list_whole l = length l.b.now

abbrev pub invariant-list_whole-loop-at : goal.invariant-list_whole-loop-at
invariant-list_whole-loop-at l = Passed whole l.b l.at

abbrev pub decreases-list_whole-loop-at : goal.decreases-list_whole-loop-at
decreases-list_whole-loop-at l = length l.b - l.at
