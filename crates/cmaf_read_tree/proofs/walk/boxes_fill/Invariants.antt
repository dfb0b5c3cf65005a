-- `cmaf_read_tree::walk::boxes_fill` meets its contract: at each place the list is what is left of it.
use Prim.Native.Nat.{◌-◌}
use lib.ListN.{length}
use Rattle.cmaf_read_tree.specs.Fills.{fills}
use Rattle.cmaf_read_tree.proofs.PlaceLaws.{Passed}
use Rattle.cmaf_read_tree.proofs.walk.boxes_fill.Given as goal

abbrev pub invariant-loop-at : goal.invariant-loop-at
invariant-loop-at l = Passed fills l.b l.at

abbrev pub decreases-loop-at : goal.decreases-loop-at
decreases-loop-at l = length l.b - l.at
