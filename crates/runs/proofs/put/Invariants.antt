-- `runs::put` meets its contract, by the laws of `proofs/PutLoop.antt`.
use Rattle.wire.specs.Form.{rows}
use Rattle.runs.proofs.PutLoop.{Putting}
use Rattle.runs.proofs.put.Given as goal

abbrev pub invariant-loop-i : goal.invariant-loop-i
invariant-loop-i l = Putting (rows l.form) l.coding l.base l.old l.new l.initial.out l.at l.out l.p l.i
