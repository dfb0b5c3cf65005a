-- `cmaf_read_senc::sizes::saio_ok` meets its contract, by what it reads.
use Rattle.cmaf_read_senc.proofs.SizeLaws.{saio-short, saio-long}
use Rattle.cmaf_read_senc.proofs.sizes.saio_ok.Goals as goal

pub returns-then-b-lt16 : goal.returns-then-b-lt16
returns-then-b-lt16 c = let a = c.args in saio-short a.c.now a.b c.if-b-lt16.true

pub returns : goal.returns
returns c =
    let a = c.args in
    saio-long a.c.now a.b _ _ c.u32_at.ensures.0 c.u32_at-count.ensures.0 c.if-b-lt16.false
