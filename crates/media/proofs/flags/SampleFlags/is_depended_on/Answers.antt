-- `media::flags::SampleFlags::is_depended_on` meets its contract: it computes what is asked. `search` would find this too; it is written out so that
-- a field at a wrong bit is refused here, by the two numbers that differ, and not first at `of_five`.
use mathlib.Core.Path.{refl}
use Rattle.media.proofs.flags.SampleFlags.is_depended_on.Goals as goal

pub returns : goal.returns
returns c = refl
