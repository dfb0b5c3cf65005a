-- `locmaf_read_set::read::take_lines` meets its contract, by the laws of `proofs/TakingLaws.antt`.
use Rattle.wire.specs.Form.{rows}
use Rattle.locmaf_read_said.specs.Said.{says_in}
use Rattle.locmaf_read_set.specs.Read.{came_of}
use Rattle.locmaf_read_set.proofs.TakingLaws.{Taking}
use Rattle.locmaf_read_set.proofs.read.take_lines.Given as goal

abbrev pub invariant-loop-i : goal.invariant-loop-i
invariant-loop-i l = Taking (came_of l.t l.a.held l.r (says_in (rows l.form) l.o l.index) l.m) l.from l.to l.initial.x l.x l.first l.second l.within l.i
