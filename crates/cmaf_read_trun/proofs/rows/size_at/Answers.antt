-- `cmaf_read_trun::rows::size_at` meets its contract.
use mathlib.Core.Path.{sym, ◌∙◌}
use Rattle.cmaf_read_trun.proofs.RowLaws.{sizes-column, size-own, size-default}
use Rattle.cmaf_read_trun.proofs.rows.size_at.Goals as goal

pub has-requires : goal.has-requires
has-requires c = sizes-column

pub cell-requires : goal.cell-requires
cell-requires c = record { rows_in = c.requires.rows_in; column_value = sizes-column; column_value_2 = sym c.has.ensures ∙ c.if-has.true; i_lt_count = c.requires.i_lt_count }

pub returns-then-has : goal.returns-then-has
returns-then-has c =
    let a = c.args in (
      size-own a.c.now a.r a.default a.i _ (sym c.has.ensures ∙ c.if-has.true)
          c.cell.ensures.0,
      c.cell.ensures.1,
    )

pub returns : goal.returns
returns c = (size-default c.args.c.now c.args.r c.args.default c.args.i (sym c.has.ensures ∙ c.if-has.false), c.requires.default_bound)
