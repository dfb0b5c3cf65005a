-- `locmaf_read_block::numbers::count` meets its contract, by the laws of `proofs/OnesLaws.antt` and `proofs/CountLoop.antt`.
use Prim.Native.Nat.{◌-◌}
use Rattle.wire.specs.Form.{rows}
use Rattle.locmaf_read_block.proofs.CountLoop.{Counting}
use Rattle.locmaf_read_block.proofs.numbers.count.Given as goal

abbrev pub invariant-loop-p : goal.invariant-loop-p
invariant-loop-p l = Counting (rows l.form) l.s l.at l.end l.n l.p

abbrev pub decreases-loop-p : goal.decreases-loop-p
decreases-loop-p l = l.end - l.p
