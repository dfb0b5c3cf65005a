-- `locmaf_write_block::deletions::deleted` meets its contract: none in a full object, and else the ids collected so far.
use Rattle.locmaf_write_block.proofs.GoneLaws.{Collecting}
use Rattle.locmaf_write_block.proofs.deletions.deleted.Given as goal

abbrev pub invariant-loop-i : goal.invariant-loop-i
invariant-loop-i l = Collecting l.b.delta l.b.follow l.r l.x l.ids l.n l.i
