-- `cmaf_read_prelude::prft::prft_ok` meets its contract, by the length.
use Rattle.cmaf_read_prelude.proofs.PrftLaws.{prft-short, prft-long}
use Rattle.cmaf_read_prelude.proofs.prft.prft_ok.Goals as goal

pub returns-then-b-lt28 : goal.returns-then-b-lt28
returns-then-b-lt28 c = prft-short _ _ c.if-b-lt28.true

pub returns : goal.returns
returns c = prft-long _ _ _ c.u32_at-version.ensures.0 c.if-b-lt28.false
