-- `told_sizes::told::may_have` meets its contract, case by case.
use Rattle.field_table.specs.Lines.{lines, line_for}
use Rattle.field_set.proofs.ValueLaws.{has_no, has-yes}
use Rattle.told_sizes.proofs.ToldLaws.{may-lone, may-listed, may-default, may-trex}
use Rattle.told_sizes.proofs.told.may_have.Goals as goal

pub returns-then-n-le1 : goal.returns-then-n-le1
returns-then-n-le1 c = may-lone _ _ _ _ c.if-n-le1.true

pub returns-then-w-ne0 : goal.returns-then-w-ne0
unfolding lines line_for
returns-then-w-ne0 c = may-listed _ _ _ _ c.if-n-le1.false (has-yes 1 _ c.if-w-ne0.true)

pub returns-then-w-ne0-2 : goal.returns-then-w-ne0-2
unfolding lines line_for
returns-then-w-ne0-2 c = may-default _ _ _ _ c.if-n-le1.false (has_no 1 _ c.if-w-ne0.false) (has-yes 6 _ c.if-w-ne0-2.true)

pub returns : goal.returns
unfolding lines line_for
returns c = may-trex _ _ _ _ c.if-n-le1.false (has_no 1 _ c.if-w-ne0.false) (has_no 6 _ c.if-w-ne0-2.false)
