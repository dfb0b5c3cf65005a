-- `locmaf_write_block::set::lines_size` meets its contract: the lines weighed so far, whose bytes are kept.
use Rattle.wire.specs.Form.{rows}
use Rattle.locmaf_write_block.proofs.LinesLaws.{Weighing}
use Rattle.locmaf_write_block.proofs.set.lines_size.Given as goal

abbrev pub invariant-loop-i : goal.invariant-loop-i
invariant-loop-i l = Weighing (rows l.form) l.t l.b.delta l.b.follow l.r l.x l.kept l.sum l.i
