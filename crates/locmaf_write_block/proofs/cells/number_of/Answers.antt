-- `locmaf_write_block::cells::number_of` meets its contract: the code of its new value against its old one.
use Rattle.locmaf_write_block.proofs.cells.number_of.Goals as goal

pub returns : goal.returns
returns c = rw (← c.old_value.ensures) c.code.ensures
