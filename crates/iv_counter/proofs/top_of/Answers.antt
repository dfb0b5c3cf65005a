-- `iv_counter::top_of` meets its contract.
use borrow.Author.Tests.{ne_eqb}
use Rattle.iv_counter.proofs.top_of.Goals as goal

pub returns-then-k-eq2 : goal.returns-then-k-eq2
returns-then-k-eq2 c = rw c.if-k-eq2.true

pub returns : goal.returns
returns c = rw (ne_eqb _ 2 c.if-k-eq2.false)
