-- `share_words::share::start_of` meets its contract as it stands.
use mathlib.Core.Path.{refl}
use Rattle.share_words.proofs.share.start_of.Goals as goal

pub returns : goal.returns
returns c = refl
