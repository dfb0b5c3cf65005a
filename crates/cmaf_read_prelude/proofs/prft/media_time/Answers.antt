-- `cmaf_read_prelude::prft::media_time` meets its contract, by the version.
use native.Mathlib.Omega.{arith}
use Rattle.cmaf_read_prelude.proofs.PrftLaws.{prft-fits, media-long, media-short, media-wide}
use Rattle.cmaf_read_prelude.proofs.prft.media_time.Goals as goal

pub u32_at-version-requires : goal.u32_at-version-requires
u32_at-version-requires c = omega (arith, (prft-fits _ _ c.requires.b_value.0 c.requires.b_value.1).long, c.requires.inside.within)

pub u32_at-requires : goal.u32_at-requires
u32_at-requires c = omega (arith, (prft-fits _ _ c.requires.b_value.0 c.requires.b_value.1).long, c.requires.inside.within)

pub returns-then-version-eq0 : goal.returns-then-version-eq0
returns-then-version-eq0 c = media-short _ _ _ _ c.u32_at-version.ensures.0 c.if-version-eq0.true c.u32_at.ensures.0

pub u64_at-requires : goal.u64_at-requires
u64_at-requires c =
    let w = media-long _ _ _ c.requires.b_value.0 c.requires.b_value.1 c.u32_at-version.ensures.0 c.if-version-eq0.false in
    omega (arith, w, c.requires.inside.within)

pub returns : goal.returns
returns c = media-wide _ _ _ _ c.u32_at-version.ensures.0 c.if-version-eq0.false c.u64_at.ensures
