-- `media::flags::SampleFlags::five` meets its contract: it computes what is asked.
use mathlib.Core.Path.{refl}
use Rattle.media.specs.Flags.{five_of}
use Rattle.media.proofs.flags.SampleFlags.five.Goals as goal

pub returns : goal.returns
unfolding five_of
returns c = refl
