use native.Mathlib.Omega.{arith}
use mathlib.Core.Path.{refl, ◌∙◌}
use borrow.Author.Rules.{rules}
use Rattle.cmaf_read_trun.proofs.EachLaws.{sum-start, sum-next, sum-end}
use Rattle.cmaf_read_trun.proofs.SampleLaws.{sizes-summed}
use Rattle.cmaf_read_trun.proofs.columns.sizes_sum.Goals as goal

pub loop-i-init : goal.loop-i-init
loop-i-init c = (refl, search rules, sum-start _ _)

pub overflow_add-sum : goal.overflow_add-sum
overflow_add-sum c = omega (arith, c.size_at-sum.ensures.1, c.loop-i.invariant.2.small)

pub loop-i-preserved : goal.loop-i-preserved
loop-i-preserved c =
    let i = c.loop-i.invariant in
    (i.0, i.1, sum-next _ i.2 c.loop-i-test.true _ c.size_at-sum.ensures.0 c.size_at-sum.ensures.1)

pub returns : goal.returns
returns c =
    let i = c.loop-i.invariant in
    sum-end _ i.2 c.loop-i-test.false ∙ sizes-summed _ _ _ _ i.0
