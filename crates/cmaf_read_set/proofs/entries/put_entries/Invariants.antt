-- `cmaf_read_set::entries::put_entries` meets its contract, by the laws of `proofs/EntryWalk.antt`.
use Rattle.cmaf_read_set.proofs.EntryWalk.{Entering}
use Rattle.cmaf_read_set.proofs.entries.put_entries.Given as goal

abbrev pub invariant-loop-i : goal.invariant-loop-i
invariant-loop-i l = Entering l.c l.e l.initial.x l.x l.i l.j l.p
