-- `wire::varint::put_low` meets its contract, by the laws of `proofs/PutLoop.antt`.
use Rattle.wire.proofs.PutLoop.{Put}
use Rattle.wire.proofs.varint.put_low.Given as goal

abbrev pub invariant-loop-j : goal.invariant-loop-j
invariant-loop-j l = Put l.initial.out l.at l.n l.v l.out l.x l.j
