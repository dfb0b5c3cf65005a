-- `locmaf_write_block::set::put_lines` meets its contract: the lines that are left.
use Rattle.wire.specs.Form.{rows}
use Rattle.locmaf_write_block.proofs.LinesLaws.{Putting}
use Rattle.locmaf_write_block.proofs.set.put_lines.Given as goal

abbrev pub invariant-loop-i : goal.invariant-loop-i
invariant-loop-i l = Putting (rows l.form) l.t l.b.delta l.b.follow l.r l.x l.initial.out l.at l.from l.to l.out l.p l.i
