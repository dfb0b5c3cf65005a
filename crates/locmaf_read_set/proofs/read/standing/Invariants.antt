-- `locmaf_read_set::read::standing` meets its contract, by the laws of `proofs/StandingLaws.antt`.
use Rattle.locmaf_read_set.proofs.StandingLaws.{Marking}
use Rattle.locmaf_read_set.proofs.read.standing.Given as goal

abbrev pub invariant-loop-i : goal.invariant-loop-i
invariant-loop-i l = Marking l.index l.gone l.held l.r l.m l.i
