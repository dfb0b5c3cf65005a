-- `told_sizes::told::told_sum` meets its contract, case by case.
use Prim.Native.Nat.{◌+◌}
use native.Mathlib.Omega.{arith}
use lib.ListN.{get_or}
use Rattle.field_table.specs.Lines.{lines, line_for, count_at, size_at}
use Rattle.field_set.proofs.ValueLaws.{has_no, has-yes}
use Rattle.told_sizes.proofs.SumLaws.{sizes-small, size_small, product_small}
use Rattle.told_sizes.proofs.ToldLaws.{told_none, told-listed, told-default, told-trex}
use Rattle.told_sizes.proofs.told.told_sum.Goals as goal

pub returns-then-n-le1 : goal.returns-then-n-le1
returns-then-n-le1 c = told_none _ _ c.if-n-le1.true

pub add_up-requires : goal.add_up-requires
add_up-requires c =
    let s = c.requires in
    (omega (arith, s.words, s.few), sizes-small s (omega (arith, c.if-n-le1.false)))

pub returns-then-w-ne0 : goal.returns-then-w-ne0
unfolding lines line_for
returns-then-w-ne0 c = told-listed _ _ c.if-n-le1.false (has-yes 1 _ c.if-w-ne0.true) _ c.add_up.ensures

pub overflow_mul-result : goal.overflow_mul-result
overflow_mul-result c = omega (arith, product_small (get_or c.args.w.now count_at 0) (get_or c.args.w.now (size_at + 1) 0) c.requires.few (size_small c.requires))

pub returns-then-w-ne0-2 : goal.returns-then-w-ne0-2
unfolding lines line_for
returns-then-w-ne0-2 c = told-default _ _ c.if-n-le1.false (has_no 1 _ c.if-w-ne0.false) (has-yes 6 _ c.if-w-ne0-2.true)

pub overflow_mul-result-2 : goal.overflow_mul-result-2
overflow_mul-result-2 c = omega (arith, product_small (get_or c.args.w.now count_at 0) c.args.t.size c.requires.few (omega arith))

pub returns : goal.returns
unfolding lines line_for
returns c = told-trex _ _ c.if-n-le1.false (has_no 1 _ c.if-w-ne0.false) (has_no 6 _ c.if-w-ne0-2.false)
