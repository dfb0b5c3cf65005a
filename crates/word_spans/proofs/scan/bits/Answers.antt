-- `word_spans::scan::bits` meets its contract: no words, few, or many.
use Rattle.word_spans.proofs.ScanLaws.{collect-none}
use Rattle.word_spans.proofs.scan.bits.Goals as goal

pub returns-then-to-from : goal.returns-then-to-from
returns-then-to-from c = collect-none _ _ _ c.if-to-from.true
