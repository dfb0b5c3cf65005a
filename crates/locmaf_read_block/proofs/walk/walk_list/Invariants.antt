-- `locmaf_read_block::walk::walk_list` meets its contract, by the laws of `proofs/ListLoop.antt`.
use Prim.Native.Nat.{◌-◌}
use lib.ListN.{length}
use Rattle.wire.specs.Form.{rows}
use Rattle.locmaf_read_block.proofs.ListLoop.{Walking}
use Rattle.locmaf_read_block.proofs.walk.walk_list.Given as goal

abbrev pub invariant-loop-at : goal.invariant-loop-at
invariant-loop-at l = Walking (rows l.form) l.base l.n l.s l.initial.out l.out l.at l.count

abbrev pub decreases-loop-at : goal.decreases-loop-at
decreases-loop-at l = length l.s - l.at
