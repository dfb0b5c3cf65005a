-- `field_set::lawful::tally_of` meets its contract, by the mark of id 11.
use mathlib.Core.Path.{sym, ◌∙◌}
use Rattle.field_table.specs.Lines.{lines, line_for}
use Rattle.field_set.proofs.TallyLaws.{tally-none}
use Rattle.field_set.proofs.ValueLaws.{values-none, values-all}
use Rattle.field_set.proofs.lawful.tally_of.Goals as goal

pub returns-then-mark-eq0 : goal.returns-then-mark-eq0
unfolding line_for lines
returns-then-mark-eq0 c = rw (values-none 11 c.args.n c.args.w.now (sym c.requires.mark_value ∙ c.if-mark-eq0.true)) (tally-none _)

pub returns : goal.returns
unfolding line_for lines
returns c = rw (values-all 11 c.args.n c.args.w.now (rw c.requires.mark_value at c.if-mark-eq0.false)) c.tallied.ensures
