-- `word_spans::scan::up_to_three` meets its contract: three words, of which some may be the same.
use Rattle.word_spans.proofs.ScanLaws.{bits-three}
use Rattle.word_spans.proofs.scan.up_to_three.Goals as goal

pub returns : goal.returns
returns c =
    let a = c.args in
    bits-three a.w.now a.from a.to c.requires.1 c.requires.2 c.requires.0
