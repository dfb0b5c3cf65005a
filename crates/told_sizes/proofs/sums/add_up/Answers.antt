use native.Mathlib.Omega.{arith}
use Rattle.told_sizes.proofs.SumLaws.{add_start, add-fits, add-more, add-end}
use Rattle.told_sizes.proofs.sums.add_up.Goals as goal

pub loop-i-init : goal.loop-i-init
loop-i-init c = add_start _ _ _ c.requires.0 c.requires.1

pub overflow_add-sum : goal.overflow_add-sum
overflow_add-sum c = omega (arith, add-fits _ _ _ _ _ c.loop-i.invariant c.loop-i-test.true)

pub loop-i-preserved : goal.loop-i-preserved
loop-i-preserved c = add-more _ _ _ _ _ c.loop-i.invariant c.loop-i-test.true

pub returns : goal.returns
returns c = add-end _ _ _ _ _ c.loop-i.invariant c.loop-i-test.false
