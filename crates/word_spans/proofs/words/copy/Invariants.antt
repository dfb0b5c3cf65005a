-- `word_spans::words::copy` meets its contract, by the laws of `proofs/CopyLoop.antt`.
use Rattle.word_spans.proofs.CopyLoop.{Copying}
use Rattle.word_spans.proofs.words.copy.Given as goal

abbrev pub invariant-loop-i : goal.invariant-loop-i
invariant-loop-i l = Copying l.r l.from l.n l.initial.x l.to l.x l.i
