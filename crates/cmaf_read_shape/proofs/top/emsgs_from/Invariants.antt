-- `cmaf_read_shape::top::emsgs_from` meets its contract: at each place what is left of the run is the run from there.
use Prim.Native.Nat.{◌-◌}
use lib.ListN.{length}
use Rattle.cmaf_read_shape.proofs.RunLaws.{Running}
use Rattle.cmaf_read_shape.proofs.top.emsgs_from.Given as goal

abbrev pub invariant-loop-p : goal.invariant-loop-p
invariant-loop-p l = Running l.c l.at l.count l.p

abbrev pub decreases-loop-p : goal.decreases-loop-p
decreases-loop-p l = length l.c - l.p
