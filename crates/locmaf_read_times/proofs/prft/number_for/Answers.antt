-- `locmaf_read_times::prft::number_for` meets its contract: the number that is kept, or the one that is sent.
use Rattle.locmaf_read_times.proofs.PrftLaws.{number-kept, number-sent}
use Rattle.locmaf_read_times.proofs.prft.number_for.Goals as goal

pub returns-then-index-id-eq0 : goal.returns-then-index-id-eq0
returns-then-index-id-eq0 c = number-kept _ c.args.index.now _ _ _ _ _ c.base-coding.ensures c.if-index-id-eq0.true

pub returns : goal.returns
returns c = number-sent _ c.args.index.now _ _ _ _ _ c.base-coding.ensures c.if-index-id-eq0.false _ c.reach.ensures
