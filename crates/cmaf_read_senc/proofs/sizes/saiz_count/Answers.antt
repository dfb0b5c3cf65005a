-- `cmaf_read_senc::sizes::saiz_count` meets its contract, whether the box stands or not.
use native.Mathlib.Omega.{arith}
use mathlib.Core.Path.{◌∙◌}
use Rattle.cmaf_read_senc.proofs.SizeLaws.{infos-none, infos-some}
use Rattle.cmaf_read_senc.proofs.sizes.saiz_count.Goals as goal

pub returns-then-b-lt17 : goal.returns-then-b-lt17
returns-then-b-lt17 c = let a = c.args in (infos-none a.c.now a.b c.if-b-lt17.true, omega arith)

pub returns : goal.returns
returns c =
    let a = c.args in
    (c.u32_at.ensures.0 ∙ infos-some a.c.now a.b c.if-b-lt17.false, c.u32_at.ensures.1)
