-- `locmaf_read_set::read::count_of` meets its contract.
use Rattle.locmaf_read_set.proofs.LeafLaws.{count_kept, count-sent}
use Rattle.locmaf_read_set.proofs.read.count_of.Goals as goal

pub returns-then-index-eq0 : goal.returns-then-index-eq0
returns-then-index-eq0 c = count_kept _ _ _ c.if-index-eq0.true

pub returns : goal.returns
returns c = count-sent _ _ _ _ c.if-index-eq0.false c.reach.ensures
