-- `track::is_lawful` meets its contract: the tests are the definition's, in its order.
use mathlib.Core.Path.{refl}
use Rattle.laws.specs.Tests.{◌and◌}
use Rattle.track.specs.Track.{lawful}
use Rattle.track.proofs.is_lawful.Goals as goal

pub returns : goal.returns
unfolding lawful ◌and◌
returns c = rw c.iv_ok.ensures refl
