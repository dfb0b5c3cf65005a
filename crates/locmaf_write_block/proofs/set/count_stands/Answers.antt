-- `locmaf_write_block::set::count_stands` meets its contract: always in a full object, and in a delta where it differs.
use mathlib.Core.Path.{refl}
use Rattle.locmaf_write_block.specs.Fields.{count_stands}
use Rattle.locmaf_write_block.proofs.set.count_stands.Goals as goal

pub returns : goal.returns
unfolding count_stands
returns c = refl
