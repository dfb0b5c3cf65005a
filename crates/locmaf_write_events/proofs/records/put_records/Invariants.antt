-- `locmaf_write_events::records::put_records` meets its contract: the records, and what is left of them.
use Rattle.wire.specs.Form.{rows}
use Rattle.locmaf_write_events.proofs.WriteLoop.{Writing}
use Rattle.locmaf_write_events.proofs.records.put_records.Given as goal

abbrev pub invariant-loop-i : goal.invariant-loop-i
invariant-loop-i l = Writing (rows l.form) l.t l.bmdt.0 l.c l.events l.k l.initial.out l.at l.out l.p l.i
