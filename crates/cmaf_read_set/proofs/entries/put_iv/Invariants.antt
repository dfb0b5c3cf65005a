-- `cmaf_read_set::entries::put_iv` meets its contract, by the laws of `proofs/EntryLoops.antt`.
use Rattle.cmaf_read_set.proofs.EntryLoops.{StoringIv}
use Rattle.cmaf_read_set.proofs.entries.put_iv.Given as goal

abbrev pub invariant-loop-j : goal.invariant-loop-j
invariant-loop-j l = StoringIv l.c l.at l.k l.initial.x l.i l.x l.j
