-- `cmaf_read_tree::walk::walk_whole` meets its contract: at each place the list is as whole as what is left of it, over a box and into one.
use Prim.Native.Nat.{◌-◌}
use lib.ListN.{length}
use Rattle.cmaf_read_tree.specs.Whole.{whole}
use Rattle.cmaf_read_tree.proofs.PlaceLaws.{Passed}
use Rattle.cmaf_read_tree.proofs.walk.walk_whole.Given as goal

abbrev pub invariant-loop-at : goal.invariant-loop-at
invariant-loop-at l = Passed whole l.b l.at

abbrev pub decreases-loop-at : goal.decreases-loop-at
decreases-loop-at l = length l.b - l.at
