-- `effective::sizes::listed_sizes` meets its contract, by whether id 1 stands; of no samples none has a size.
use native.Mathlib.Omega.{arith}
use mathlib.Core.Path.{refl}
use Rattle.field_table.specs.Lines.{lines, line_for}
use Rattle.field_set.proofs.ValueLaws.{has_no, has-yes}
use Rattle.effective.proofs.SizeLaws.{listed-none, listed-some}
use Rattle.effective.proofs.sizes.listed_sizes.Goals as goal

pub returns-then-w-eq0 : goal.returns-then-w-eq0
unfolding lines line_for
returns-then-w-eq0 c = let w = c.args.w.now in listed-none w (has_no 1 w c.if-w-eq0.true)

pub returns-then-w-eq0-2 : goal.returns-then-w-eq0-2
unfolding lines line_for
returns-then-w-eq0-2 c =
    let w = c.args.w.now in
    listed-some w (has-yes 1 w c.if-w-eq0.false) 0 (omega (arith, c.if-w-eq0-2.true))

pub returns : goal.returns
unfolding lines line_for
returns c =
    let w = c.args.w.now in
    listed-some w (has-yes 1 w c.if-w-eq0.false) _ refl
