-- `effective::durations::durations` meets its contract: those that are listed are added up.
use native.Mathlib.Omega.{arith}
use Rattle.field_table.specs.Lines.{lines, line_for}
use Rattle.field_set.proofs.ValueLaws.{has_no, has-yes}
use Rattle.effective.proofs.DurationLaws.{durations-small, durations-listed}
use Rattle.effective.proofs.durations.durations.Goals as goal

pub add_up-requires : goal.add_up-requires
add_up-requires c = let s = c.requires in (omega (arith, s.words, s.few), omega (arith, durations-small s))

pub returns-then-w-ne0 : goal.returns-then-w-ne0
unfolding lines line_for
returns-then-w-ne0 c = durations-listed _ _ (has-yes 3 _ c.if-w-ne0.true) _ c.add_up.ensures

pub unlisted-requires : goal.unlisted-requires
unfolding lines line_for
unlisted-requires c = (c.requires, has_no 3 _ c.if-w-ne0.false)
