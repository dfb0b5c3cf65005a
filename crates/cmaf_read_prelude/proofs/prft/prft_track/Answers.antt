-- `cmaf_read_prelude::prft::prft_track` meets its contract, by the length.
use native.Mathlib.Omega.{arith}
use mathlib.Core.Path.{◌∙◌}
use Rattle.cmaf_read_prelude.proofs.PrftLaws.{prft-fits, track-none, track-some}
use Rattle.cmaf_read_prelude.proofs.prft.prft_track.Goals as goal

pub returns-then-b-eq0 : goal.returns-then-b-eq0
returns-then-b-eq0 c = track-none _ _ _ c.if-b-eq0.true

pub u32_at-requires : goal.u32_at-requires
u32_at-requires c =
    let n = c.if-b-eq0.false in
    omega (arith, (prft-fits _ _ c.requires.b_value (omega (arith, n))).long, c.requires.inside.within)

pub returns : goal.returns
returns c = c.u32_at.ensures.0 ∙ track-some _ _ _ c.if-b-eq0.false
