-- `cmaf_write_moof::moof::trun_length` meets its contract.
use Prim.Native.Nat.{ℕ, ◌*◌}
use native.Mathlib.Omega.{arith}
use mathlib.Core.Path.{ap}
use Rattle.field_table.specs.Lines.{lines, line_for}
use Rattle.field_set.specs.Lawful.{has, count_in}
use Rattle.cmaf_write_moof.specs.Lengths.{trun_length}
use Rattle.cmaf_write_moof.proofs.MoofLaws.{rows-small}
use Rattle.cmaf_write_moof.proofs.moof.trun_length.Goals as goal

pub overflow_mul-result : goal.overflow_mul-result
overflow_mul-result c = omega (arith, rows-small _ _ c.requires.1 c.row_length.ensures.1)

pub overflow_add-result : goal.overflow_add-result
overflow_add-result c = omega (arith, rows-small _ _ c.requires.1 c.row_length.ensures.1)

pub overflow_add-result-2 : goal.overflow_add-result-2
overflow_add-result-2 c = omega (arith, rows-small _ _ c.requires.1 c.row_length.ensures.1)

pub returns : goal.returns
unfolding trun_length has lines line_for
returns c =
    let w = c.args.w.now in
    let e = ap (λ (n : ℕ). count_in w * n) c.row_length.ensures.0 in
    (omega arith, omega (arith, rows-small _ _ c.requires.1 c.row_length.ensures.1))
