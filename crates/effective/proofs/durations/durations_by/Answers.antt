-- `effective::durations::durations_by` meets its contract: the sum that is told, or that of samples alike.
use Rattle.field_table.specs.Lines.{lines, line_for}
use Rattle.field_set.proofs.ValueLaws.{has_no, has-yes}
use Rattle.effective.proofs.DurationLaws.{durations-told}
use Rattle.effective.proofs.durations.durations_by.Goals as goal

pub returns-then-w-ne0 : goal.returns-then-w-ne0
unfolding lines line_for
returns-then-w-ne0 c = durations-told _ _ (has-yes 3 _ c.if-w-ne0.true) _ c.requires.1

pub unlisted-requires : goal.unlisted-requires
unfolding lines line_for
unlisted-requires c = (c.requires.0, has_no 3 _ c.if-w-ne0.false)
