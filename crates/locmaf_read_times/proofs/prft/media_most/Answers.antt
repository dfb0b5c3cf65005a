-- `locmaf_read_times::prft::media_most` meets its contract.
use Rattle.locmaf_read_times.proofs.PrftLaws.{most-32, most-64}
use Rattle.locmaf_read_times.proofs.prft.media_most.Goals as goal

pub returns-then-version-eq0 : goal.returns-then-version-eq0
returns-then-version-eq0 c = most-32 _ c.if-version-eq0.true

pub returns-else-version-eq0 : goal.returns-else-version-eq0
returns-else-version-eq0 c = most-64 _ c.if-version-eq0.false
