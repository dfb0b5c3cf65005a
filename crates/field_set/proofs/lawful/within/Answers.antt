-- `field_set::lawful::within` meets its contract, by the line's number.
use borrow.Author.Tests.{eq-eqb, ne_eqb}
use Rattle.field_table.specs.Lines.{durations_line}
use Rattle.field_set.proofs.lawful.within.Goals as goal

pub returns-then-i-eq-DURATIONS : goal.returns-then-i-eq-DURATIONS
returns-then-i-eq-DURATIONS c = rw (eq-eqb _ durations_line c.if-i-eq-DURATIONS.true)

pub returns : goal.returns
returns c = rw (ne_eqb _ durations_line c.if-i-eq-DURATIONS.false, c.bits.ensures)
