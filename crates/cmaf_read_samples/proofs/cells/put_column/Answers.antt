use mathlib.Core.Path.{◌∙◌, ap, sym}
use native.Mathlib.Omega.{arith}
use lib.ListN.{length-set}
use Rattle.cmaf_read_samples.specs.Ways.{value_of}
use Rattle.cmaf_read_trun.proofs.EachLaws.{store-start, store-next, store-end}
use Rattle.cmaf_read_samples.proofs.CellLaws.{column-none, column-stored}
use mathlib.Core.Bool.{not}
use Rattle.cmaf_read_samples.proofs.cells.put_column.Goals as goal

pub returns-then-not-has : goal.returns-then-not-has
returns-then-not-has c =
    let a = c.args in
    column-none a.c.now a.r a.column a.way a.x.now a.place c.has.ensures (ap not c.if-not-has.true)

pub loop-i-init : goal.loop-i-init
loop-i-init c = store-start _ _ _ _ (simp length-set (omega (arith, c.requires.few_rows, c.requires.samples_most_in_bounds)))

pub cell-requires : goal.cell-requires
cell-requires c = record { rows_in = c.requires.few_rows.0; column_value = c.requires.column_value; column_value_2 = sym c.has.ensures ∙ c.if-not-has.false; i_lt_count = c.loop-i-test.true }

pub loop-i-preserved : goal.loop-i-preserved
loop-i-preserved c = store-next _ _ _ _ _ _ c.loop-i.invariant c.loop-i-test.true _ (c.value.ensures ∙ ap (value_of c.args.way) c.cell.ensures.0)

pub shape_of-x : goal.shape_of-x
shape_of-x c = rw length-set at c.loop-i.invariant.same

pub returns : goal.returns
returns c =
    let a = c.args in
    column-stored a.c.now a.r a.column a.way a.x.now a.place c.has.ensures (ap not c.if-not-has.false) (store-end _ _ _ _ _ _ c.loop-i.invariant c.loop-i-test.false)
