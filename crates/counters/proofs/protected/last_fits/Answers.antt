-- `counters::protected::last_fits` meets its contract, case by case.
use Rattle.field_table.specs.Lines.{lines, line_for}
use Rattle.field_set.proofs.ValueLaws.{has_no, has-yes}
use Rattle.counters.proofs.ProtectedLaws.{some-samples, none-fits, paired-fits, whole-fits}
use Rattle.counters.proofs.protected.last_fits.Goals as goal

pub returns-then-w-eq0 : goal.returns-then-w-eq0
unfolding lines line_for
returns-then-w-eq0 c = none-fits _ _ c.requires.summable.1 _ (has_no 9 _ c.if-w-eq0.true)

pub last_bytes-requires : goal.last_bytes-requires
unfolding lines line_for
last_bytes-requires c =
    let p = c.requires in
    record { summable = (p.summable.0, has-yes 11 _ c.if-w-ne0.true, some-samples _ _ p.summable.1 (has-yes 9 _ c.if-w-eq0.false)); pairs_value = p.pairs_value }

pub returns-then-w-ne0 : goal.returns-then-w-ne0
unfolding lines line_for
returns-then-w-ne0 c =
    let law = c.requires.summable.1 in
    rw c.last_bytes.ensures (paired-fits _ _ law (has-yes 9 _ c.if-w-eq0.false) _ (has-yes 11 _ c.if-w-ne0.true))

pub overflow_sub-w : goal.overflow_sub-w
unfolding lines line_for
overflow_sub-w c = some-samples _ _ c.requires.summable.1 (has-yes 9 _ c.if-w-eq0.false)

pub returns : goal.returns
unfolding lines line_for
returns c =
    let law = c.requires.summable.1 in
    rw c.may_have.ensures (whole-fits _ _ law (has-yes 9 _ c.if-w-eq0.false) _ (has_no 11 _ c.if-w-ne0.false))
