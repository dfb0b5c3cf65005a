-- `locmaf_read_block::records::read_rest`: the bytes that are left fall at each call, whatever the budget.
use lib.ListN.{length}
use Rattle.locmaf_read_block.proofs.records.+read_rest.Given as goal

abbrev pub decreases-read_rest : goal.decreases-read_rest
decreases-read_rest l = length l.s.now
