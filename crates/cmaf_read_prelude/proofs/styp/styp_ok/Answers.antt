-- `cmaf_read_prelude::styp::styp_ok` meets its contract: it is the definition.
use mathlib.Core.Path.{refl}
use Rattle.cmaf_read_prelude.specs.Styp.{styp_ok}
use Rattle.cmaf_read_prelude.proofs.styp.styp_ok.Goals as goal

pub returns : goal.returns
unfolding styp_ok
returns c = refl
