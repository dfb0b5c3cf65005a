-- `locmaf_write_events::records::list_bytes` meets its contract: a sum, and what is left of it.
use Rattle.wire.specs.Form.{rows}
use Rattle.locmaf_write_events.proofs.SumLoop.{Adding}
use Rattle.locmaf_write_events.proofs.records.list_bytes.Given as goal

abbrev pub invariant-loop-i : goal.invariant-loop-i
invariant-loop-i l = Adding (rows l.form) l.t l.bmdt.0 l.events l.k l.sum l.i
