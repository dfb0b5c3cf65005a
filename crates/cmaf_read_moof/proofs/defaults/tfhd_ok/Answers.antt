-- `cmaf_read_moof::defaults::tfhd_ok` meets its contract.
use Rattle.cmaf_read_moof.proofs.DefaultLaws.{tfhd-short, tfhd-is}
use Rattle.cmaf_read_moof.proofs.defaults.tfhd_ok.Goals as goal

pub returns-then-b-lt16 : goal.returns-then-b-lt16
returns-then-b-lt16 c = let a = c.args in tfhd-short a.c.now a.b c.if-b-lt16.true

pub returns : goal.returns
returns c =
    let a = c.args in
    tfhd-is a.c.now a.b _ _ _ _ _ _ c.u32_at-word.ensures.0
    c.bit.ensures.0 c.bit-2.ensures.0
    c.bit-3.ensures.0 c.bit-4.ensures.0 c.fields_in.ensures.0
