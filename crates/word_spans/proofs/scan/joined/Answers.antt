-- `word_spans::scan::joined` meets its contract: lane by lane the bits are those of one and of the other.
use Rattle.word_spans.proofs.ScanLaws.{or-cross}
use Rattle.word_spans.proofs.scan.joined.Goals as goal

pub returns : goal.returns
returns c =
    let a = c.args.a in
    let b = c.args.b in
    or-cross a.even a.odd b.even b.odd
