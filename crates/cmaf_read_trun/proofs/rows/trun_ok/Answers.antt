-- `cmaf_read_trun::rows::trun_ok` meets its contract: the product is exact.
use native.Mathlib.Omega.{arith}
use Rattle.cmaf_read_trun.proofs.RowLaws.{rows-small, trun-short, trun-is}
use Rattle.cmaf_read_trun.proofs.rows.trun_ok.Goals as goal

pub returns-then-b-lt20 : goal.returns-then-b-lt20
returns-then-b-lt20 c = let a = c.args in trun-short a.c.now a.b c.if-b-lt20.true

pub overflow_mul-result : goal.overflow_mul-result
overflow_mul-result c = omega (arith, rows-small _ _ c.run_width.ensures.1 c.u32_at-count.ensures.1)

pub overflow_add-result : goal.overflow_add-result
overflow_add-result c = omega (arith, c.run_head.ensures.1, rows-small _ _ c.run_width.ensures.1 c.u32_at-count.ensures.1)

pub returns : goal.returns
returns c =
    let a = c.args in
    trun-is a.c.now a.b _ _ _ _ _ c.u32_at-word.ensures.0
    c.u32_at-count.ensures.0 c.run_flags_ok.ensures
    c.run_head.ensures.0 c.run_width.ensures.0
