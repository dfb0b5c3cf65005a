-- `word_spans::scan::four` meets its contract: two words in each lane.
use Rattle.word_spans.proofs.ScanLaws.{bits-four}
use Rattle.word_spans.proofs.scan.four.Goals as goal

pub returns : goal.returns
returns c = bits-four _ _ c.requires
