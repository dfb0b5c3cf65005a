-- `field_set::lawful::listed` meets its contract, by the mark of id 3.
use Rattle.word_spans.proofs.TotalLaws.{total-none}
use Rattle.field_table.specs.Lines.{lines, line_for}
use Rattle.field_set.proofs.ValueLaws.{values-none, values-all}
use Rattle.field_set.proofs.lawful.listed.Goals as goal

pub returns-then-w-eq0 : goal.returns-then-w-eq0
unfolding line_for lines
returns-then-w-eq0 c = rw (values-none 3 c.args.n c.args.w.now c.if-w-eq0.true) total-none

pub returns : goal.returns
unfolding line_for lines
returns c = rw (values-all 3 c.args.n c.args.w.now c.if-w-eq0.false) c.totalled.ensures
