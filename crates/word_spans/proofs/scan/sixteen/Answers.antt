-- `word_spans::scan::sixteen` meets its contract: two steps of eight words.
use Prim.Native.Nat.{◌+◌}
use native.Mathlib.Omega.{arith}
use mathlib.Core.Path.{◌∙◌}
use Rattle.word_spans.proofs.ScanLaws.{bits-steps}
use Rattle.word_spans.proofs.scan.sixteen.Goals as goal

pub returns : goal.returns
returns c =
    let i = c.args.i in
    c.joined.ensures
    ∙ bits-steps c.args.w.now 8 i (i + 8) (i + 16) (omega arith) (omega arith) (omega arith) c.requires c.eight.ensures c.eight-2.ensures
