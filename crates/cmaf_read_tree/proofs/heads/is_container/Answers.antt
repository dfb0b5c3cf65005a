-- `cmaf_read_tree::heads::is_container` meets its contract: the test is the definition's.
use mathlib.Core.Path.{refl}
use Rattle.cmaf_read_tree.specs.Whole.{container}
use Rattle.cmaf_read_tree.proofs.heads.is_container.Goals as goal

pub returns : goal.returns
unfolding container
returns c = refl
