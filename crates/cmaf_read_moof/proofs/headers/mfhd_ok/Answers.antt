-- `cmaf_read_moof::headers::mfhd_ok` meets its contract.
use Rattle.cmaf_read_moof.proofs.HeaderLaws.{mfhd-other, mfhd-is}
use Rattle.cmaf_read_moof.proofs.headers.mfhd_ok.Goals as goal

pub returns-then-b-ne16 : goal.returns-then-b-ne16
returns-then-b-ne16 c = let a = c.args in mfhd-other a.c.now a.b c.if-b-ne16.true

pub returns : goal.returns
returns c =
    let a = c.args in
    mfhd-is a.c.now a.b _ c.if-b-ne16.false c.u32_at.ensures.0
