-- `cmaf_read_trun::rows::cell` meets its contract: a cell lies in the rows.
use native.Mathlib.Omega.{arith}
use mathlib.Core.Path.{◌∙◌, ap}
use Prim.Native.Nat.{ℕ, ◌+◌, ◌*◌}
use Rattle.cmaf_read_tree.specs.Numbers.{u32}
use Rattle.cmaf_read_trun.specs.Rows.{cell}
use Rattle.cmaf_read_trun.proofs.RowLaws.{column-some, row_in, cell_in}
use Rattle.cmaf_read_trun.proofs.rows.cell.Goals as goal

pub nonzero_rem-r : goal.nonzero_rem-r
nonzero_rem-r c = omega (arith, column-some _ c.requires.column_value)

pub overflow_mul-r : goal.overflow_mul-r
overflow_mul-r c = omega (arith, row_in c.args.c.now c.args.r c.requires.rows_in c.args.i c.requires.i_lt_count)

pub overflow_add-r : goal.overflow_add-r
overflow_add-r c = omega (arith, row_in c.args.c.now c.args.r c.requires.rows_in c.args.i c.requires.i_lt_count)

pub overflow_add-r-2 : goal.overflow_add-r-2
overflow_add-r-2 c =
    let k = cell_in c.args.c.now c.args.r c.requires.rows_in c.args.i c.requires.i_lt_count c.args.column c.requires.column_value c.requires.column_value_2 in
    omega (arith, k, c.columns_in-before.ensures.0)

pub u32_at-requires : goal.u32_at-requires
u32_at-requires c =
    let k = cell_in c.args.c.now c.args.r c.requires.rows_in c.args.i c.requires.i_lt_count c.args.column c.requires.column_value c.requires.column_value_2 in
    omega (arith, k, c.columns_in-before.ensures.0)

pub returns : goal.returns
unfolding cell
returns c =
    let a = c.args in (
      c.u32_at.ensures.0 ∙ ap (λ (m : ℕ). u32 a.c.now (a.r.rows + a.r.width * a.i + 4 * m)) c.columns_in-before.ensures.0,
      c.u32_at.ensures.1,
    )
