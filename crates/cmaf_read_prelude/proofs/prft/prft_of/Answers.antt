-- `cmaf_read_prelude::prft::prft_of` meets its contract, field by field.
use native.Mathlib.Omega.{arith}
use mathlib.Core.Path.{◌∙◌}
use Rattle.cmaf_read_prelude.proofs.PrftLaws.{prft-fits, prft-none, prft-some}
use Rattle.cmaf_read_prelude.proofs.prft.prft_of.Goals as goal

pub returns-then-b-eq0 : goal.returns-then-b-eq0
returns-then-b-eq0 c = c.none.ensures ∙ prft-none _ _ c.if-b-eq0.true

pub u32_at-word-requires : goal.u32_at-word-requires
u32_at-word-requires c =
    let n = c.if-b-eq0.false in
    omega (arith, (prft-fits _ _ c.requires.b_value (omega (arith, n))).long, c.requires.inside.within)

pub u64_at-requires : goal.u64_at-requires
u64_at-requires c =
    let n = c.if-b-eq0.false in
    omega (arith, (prft-fits _ _ c.requires.b_value (omega (arith, n))).long, c.requires.inside.within)

pub returns : goal.returns
returns c = prft-some _ _ c.if-b-eq0.false _ _ _ c.u32_at-word.ensures.0 c.u64_at.ensures c.media_time-media.ensures
