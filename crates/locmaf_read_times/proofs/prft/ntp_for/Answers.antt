-- `locmaf_read_times::prft::ntp_for` meets its contract: the time that is kept, or the one that is sent.
use Rattle.locmaf_read_times.proofs.PrftLaws.{ntp-kept, ntp-sent}
use Rattle.locmaf_read_times.proofs.prft.ntp_for.Goals as goal

pub returns-then-index-eq0 : goal.returns-then-index-eq0
returns-then-index-eq0 c = ntp-kept _ c.args.index.now _ _ c.base-coding.ensures c.if-index-eq0.true

pub returns : goal.returns
returns c = ntp-sent _ c.args.index.now _ _ c.base-coding.ensures c.if-index-eq0.false _ c.reach.ensures
