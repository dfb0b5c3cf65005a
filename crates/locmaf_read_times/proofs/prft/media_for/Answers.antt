-- `locmaf_read_times::prft::media_for` meets its contract: the time that is kept, or the one that is sent.
use Rattle.locmaf_read_times.proofs.PrftLaws.{media-kept, media-sent}
use Rattle.locmaf_read_times.proofs.prft.media_for.Goals as goal

pub returns-then-index-eq0 : goal.returns-then-index-eq0
returns-then-index-eq0 c = media-kept _ c.args.index.now _ _ c.base-coding.ensures _ c.if-index-eq0.true

pub returns : goal.returns
returns c = media-sent _ c.args.index.now _ _ c.base-coding.ensures _ c.if-index-eq0.false _ c.reach.ensures
