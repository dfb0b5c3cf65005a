-- `wire::varint::join` meets its contract, by the laws of `proofs/JoinLoop.antt`.
use Rattle.wire.proofs.JoinLoop.{Joined}
use Rattle.wire.proofs.varint.join.Given as goal

abbrev pub invariant-loop-i : goal.invariant-loop-i
invariant-loop-i l = Joined l.s l.from l.to l.acc l.v l.i
