-- `track::iv_ok` meets its contract: it computes what is asked. `search` would find this too; it is written out so that a wrong test is refused
-- here, by the numbers that differ, and not first at `is_lawful`.
use mathlib.Core.Path.{refl}
use Rattle.track.proofs.iv_ok.Goals as goal

pub returns : goal.returns
returns c = refl
