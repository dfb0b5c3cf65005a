use borrow.Author.Rules.{rules}
use Rattle.cmaf_read_tree.proofs.NumberLaws.{spelling-start, spelling-fits, spelling-next, spelling-end}
use Rattle.cmaf_read_tree.proofs.numbers.u64_at.Goals as goal

pub loop-i-init : goal.loop-i-init
loop-i-init c = spelling-start _ _ c.requires

pub overflow_mul-v : goal.overflow_mul-v
overflow_mul-v c = let z = spelling-fits _ _ _ _ c.loop-i.invariant c.loop-i-test.true in search rules

pub overflow_add-v : goal.overflow_add-v
overflow_add-v c = let z = spelling-fits _ _ _ _ c.loop-i.invariant c.loop-i-test.true in search rules

pub loop-i-preserved : goal.loop-i-preserved
loop-i-preserved c = spelling-next _ _ _ _ c.loop-i.invariant c.loop-i-test.true _ c.u8_at.ensures

pub returns : goal.returns
returns c = spelling-end _ _ _ _ c.loop-i.invariant c.loop-i-test.false
