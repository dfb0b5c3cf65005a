-- `locmaf_write_block::cells::same_list` meets its contract, by the laws of `proofs/SameLoop.antt`.
use Rattle.locmaf_write_block.proofs.SameLoop.{Comparing}
use Rattle.locmaf_write_block.proofs.cells.same_list.Given as goal

abbrev pub invariant-loop-i : goal.invariant-loop-i
invariant-loop-i l = Comparing l.a l.b l.ok l.i
