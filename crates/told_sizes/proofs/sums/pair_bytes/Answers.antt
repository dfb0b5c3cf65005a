use native.Mathlib.Omega.{arith}
use Rattle.told_sizes.proofs.SumLaws.{pair-start, pair_fits, pair-more, pair_end}
use Rattle.told_sizes.proofs.sums.pair_bytes.Goals as goal

pub loop-i-init : goal.loop-i-init
loop-i-init c = pair-start c.requires.summable _ _ c.requires.k_bound

pub overflow_add-sum-in-loop-i-2 : goal.overflow_add-sum-in-loop-i-2
overflow_add-sum-in-loop-i-2 c = omega (arith, pair_fits _ _ _ _ _ _ c.loop-i.invariant c.loop-i-test.true)

pub overflow_add-sum-in-loop-i-3 : goal.overflow_add-sum-in-loop-i-3
overflow_add-sum-in-loop-i-3 c = omega (arith, pair_fits _ _ _ _ _ _ c.loop-i.invariant c.loop-i-test.true)

pub loop-i-preserved : goal.loop-i-preserved
loop-i-preserved c = pair-more _ _ _ _ _ _ c.loop-i.invariant c.loop-i-test.true

pub returns : goal.returns
returns c = let p = c.requires in pair_end p.summable _ _ p.k_bound _ _ c.loop-i.invariant c.loop-i-test.false
