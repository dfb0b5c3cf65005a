-- `encoder::front::may_delta` meets its contract: the tests of a delta as they stand.
use mathlib.Core.Path.{refl}
use Rattle.encoder.specs.Object.{may_delta}
use Rattle.encoder.proofs.front.may_delta.Goals as goal

pub returns : goal.returns
unfolding may_delta
returns c = refl
