-- `locmaf_write_events::records::times_fit` meets its contract: a row of tests, and what is left of it.
use Rattle.wire.specs.Form.{rows}
use Rattle.locmaf_write_events.proofs.FitLoop.{Fitting}
use Rattle.locmaf_write_events.proofs.records.times_fit.Given as goal

abbrev pub invariant-loop-i : goal.invariant-loop-i
invariant-loop-i l = Fitting (rows l.form) l.t l.bmdt.0 l.events l.k l.ok l.i
