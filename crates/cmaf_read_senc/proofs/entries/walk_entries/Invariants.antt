-- `cmaf_read_senc::entries::walk_entries` meets its contract: at each place, what is left of the entries.
use Rattle.cmaf_read_senc.proofs.EntryLaws.{Walking}
use Rattle.cmaf_read_senc.proofs.entries.walk_entries.Given as goal

abbrev pub invariant-loop-left : goal.invariant-loop-left
invariant-loop-left l = Walking l.c l.e l.end l.sum l.p l.left

abbrev pub decreases-loop-left : goal.decreases-loop-left
decreases-loop-left l = l.left
