-- `word_spans::scan::eight` meets its contract: two steps of four words.
use Prim.Native.Nat.{◌+◌}
use native.Mathlib.Omega.{arith}
use mathlib.Core.Path.{◌∙◌}
use Rattle.word_spans.proofs.ScanLaws.{bits-steps}
use Rattle.word_spans.proofs.scan.eight.Goals as goal

pub returns : goal.returns
returns c =
    let i = c.args.i in
    c.joined.ensures
    ∙ bits-steps c.args.w.now 4 i (i + 4) (i + 8) (omega arith) (omega arith) (omega arith) c.requires c.four.ensures c.four-2.ensures
