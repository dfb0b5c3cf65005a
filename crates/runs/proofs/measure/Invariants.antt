-- `runs::measure` meets its contract, by the laws of `proofs/MeasureLoop.antt`.
use Rattle.wire.specs.Form.{rows}
use Rattle.runs.proofs.MeasureLoop.{Measuring}
use Rattle.runs.proofs.measure.Given as goal

abbrev pub invariant-loop-i : goal.invariant-loop-i
invariant-loop-i l = Measuring (rows l.form) l.coding l.base l.old l.new l.sum l.i
