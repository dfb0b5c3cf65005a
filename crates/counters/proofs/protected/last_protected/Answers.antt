-- `counters::protected::last_protected` meets its contract, case by case.
use mathlib.Core.Path.{◌∙◌}
use Rattle.field_table.specs.Lines.{lines, line_for}
use Rattle.field_set.proofs.ValueLaws.{has_no, has-yes}
use Rattle.counters.proofs.ProtectedLaws.{some-samples, none_last, paired-last, whole-last}
use Rattle.counters.proofs.protected.last_protected.Goals as goal

pub returns-then-w-eq0 : goal.returns-then-w-eq0
unfolding lines line_for
returns-then-w-eq0 c = none_last _ _ c.requires.w_value _ (has_no 9 _ c.if-w-eq0.true)

pub pairs_in-requires : goal.pairs_in-requires
unfolding lines line_for
pairs_in-requires c = (c.requires.summable.0, has-yes 11 _ c.if-w-ne0.true)

pub last_bytes-requires : goal.last_bytes-requires
unfolding lines line_for
last_bytes-requires c =
    let p = c.requires in
    record { summable = (p.summable.0, has-yes 11 _ c.if-w-ne0.true, some-samples _ _ p.w_value (has-yes 9 _ c.if-w-eq0.false)); pairs_value = c.pairs_in.ensures }

pub returns-then-w-ne0 : goal.returns-then-w-ne0
unfolding lines line_for
returns-then-w-ne0 c =
    let law = c.requires.w_value in
    c.last_bytes.ensures ∙ paired-last _ _ law (has-yes 9 _ c.if-w-eq0.false) _ (has-yes 11 _ c.if-w-ne0.true)

pub returns : goal.returns
unfolding lines line_for
returns c =
    let law = c.requires.w_value in
    c.last_size.ensures ∙ whole-last _ _ law (has-yes 9 _ c.if-w-eq0.false) _ (has_no 11 _ c.if-w-ne0.false)
