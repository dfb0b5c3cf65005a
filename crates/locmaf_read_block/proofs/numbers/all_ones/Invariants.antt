-- `locmaf_read_block::numbers::all_ones` meets its contract, by the laws of `proofs/OnesLaws.antt`.
use Prim.Native.Nat.{◌-◌}
use Rattle.wire.specs.Form.{rows}
use Rattle.locmaf_read_block.proofs.OnesLaws.{Asking}
use Rattle.locmaf_read_block.proofs.numbers.all_ones.Given as goal

abbrev pub invariant-loop-p : goal.invariant-loop-p
invariant-loop-p l = Asking (rows l.form) l.s l.at l.end l.last l.p

abbrev pub decreases-loop-p : goal.decreases-loop-p
decreases-loop-p l = l.end - l.p
