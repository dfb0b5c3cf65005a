-- `cmaf_read_set::entries::put_pairs` meets its contract, by the laws of `proofs/EntryLoops.antt`.
use Rattle.cmaf_read_set.proofs.EntryLoops.{StoringPairs}
use Rattle.cmaf_read_set.proofs.entries.put_pairs.Given as goal

abbrev pub invariant-loop-j : goal.invariant-loop-j
invariant-loop-j l = StoringPairs l.c l.at l.k l.initial.x l.i l.x l.j
