-- `cmaf_read_prelude::styp::minor_version` meets its contract, by the length.
use mathlib.Core.Path.{◌∙◌}
use Rattle.cmaf_read_prelude.proofs.StypLaws.{minor-none, minor-some}
use Rattle.cmaf_read_prelude.proofs.styp.minor_version.Goals as goal

pub returns-then-b-lt16 : goal.returns-then-b-lt16
returns-then-b-lt16 c = minor-none _ _ c.if-b-lt16.true

pub returns : goal.returns
returns c = c.u32_at.ensures.0 ∙ minor-some _ _ c.if-b-lt16.false
