-- `cmaf_read_moof::headers::tfdt_ok` meets its contract.
use Rattle.cmaf_read_moof.proofs.HeaderLaws.{tfdt-short, tfdt-is}
use Rattle.cmaf_read_moof.proofs.headers.tfdt_ok.Goals as goal

pub returns-then-b-lt16 : goal.returns-then-b-lt16
returns-then-b-lt16 c = let a = c.args in tfdt-short a.c.now a.b c.if-b-lt16.true

pub returns : goal.returns
returns c =
    let a = c.args in
    tfdt-is a.c.now a.b _ c.u32_at-word.ensures.0
