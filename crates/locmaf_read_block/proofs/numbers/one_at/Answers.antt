-- `locmaf_read_block::numbers::one_at` meets its contract.
use Rattle.locmaf_read_block.proofs.numbers.one_at.Goals as goal

pub returns : goal.returns
returns c = rw (c.wide.ensures, c.ones.ensures)
