-- `locmaf_read_index::index::known_id` meets its contract: its tests are those of the definition.
use mathlib.Core.Path.{refl}
use Rattle.locmaf_read_block.specs.Entries.{known}
use Rattle.locmaf_read_index.proofs.index.known_id.Goals as goal

pub returns : goal.returns
unfolding known
returns c = refl
