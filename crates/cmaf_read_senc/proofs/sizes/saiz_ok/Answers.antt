-- `cmaf_read_senc::sizes::saiz_ok` meets its contract, with a default and without.
use Rattle.cmaf_read_senc.proofs.SizeLaws.{saiz-short, saiz-table, saiz-default}
use Rattle.cmaf_read_senc.proofs.sizes.saiz_ok.Goals as goal

pub returns-then-b-lt17 : goal.returns-then-b-lt17
returns-then-b-lt17 c = let a = c.args in saiz-short a.c.now a.b c.if-b-lt17.true

pub returns-then-u8_at-eq0 : goal.returns-then-u8_at-eq0
returns-then-u8_at-eq0 c =
    let a = c.args in
    saiz-table a.c.now a.b _ _ _ c.u32_at-bare.ensures.0 c.u32_at-count.ensures.0 c.u8_at.ensures.0
    c.if-b-lt17.false c.if-u8_at-eq0.true

pub returns : goal.returns
returns c =
    let a = c.args in
    saiz-default a.c.now a.b _ _ _ c.u32_at-bare.ensures.0 c.u32_at-count.ensures.0 c.u8_at.ensures.0
    c.if-b-lt17.false c.if-u8_at-eq0.false
