-- `word_spans::scan::totalled` meets its contract, by what is left to add from the loop's place on.
use Rattle.word_spans.proofs.TotalLaws.{Totalling}
use Rattle.word_spans.proofs.scan.totalled.Given as goal

abbrev pub invariant-loop-i : goal.invariant-loop-i
invariant-loop-i l = Totalling l.w l.from l.to l.bits l.sum l.i
