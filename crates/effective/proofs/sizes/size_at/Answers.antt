-- `effective::sizes::size_at` meets its contract, case by case as `size_by` has them.
use Rattle.field_table.specs.Lines.{lines, line_for}
use Rattle.effective.proofs.SizeLaws.{size-listed, size-last}
use Rattle.effective.proofs.sizes.size_at.Goals as goal

pub returns-then-i-listed : goal.returns-then-i-listed
unfolding lines line_for
returns-then-i-listed c =
    let a = c.args in
    size-listed a.w.now a.last a.i a.listed c.requires.listed_value c.if-i-listed.true

pub returns : goal.returns
returns c =
    let a = c.args in
    size-last a.w.now a.last a.i a.listed c.requires.listed_value c.if-i-listed.false
