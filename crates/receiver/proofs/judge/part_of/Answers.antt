-- `receiver::judge::part_of` meets its contract: the words of the id are read as the definition says.
use Rattle.receiver.proofs.BrandLaws.{part_none, part-some}
use Rattle.receiver.proofs.judge.part_of.Goals as goal

pub returns-then-index-k-eq0 : goal.returns-then-index-k-eq0
returns-then-index-k-eq0 c = part_none _ _ c.if-index-k-eq0.true

pub returns : goal.returns
returns c = part-some _ _ c.if-index-k-eq0.false
