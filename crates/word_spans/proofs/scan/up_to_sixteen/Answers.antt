-- `word_spans::scan::up_to_sixteen` meets its contract: a step from each end.
use Prim.Native.Nat.{◌-◌}
use native.Mathlib.Omega.{arith}
use mathlib.Core.Path.{◌∙◌}
use Rattle.word_spans.proofs.ScanLaws.{bits-steps}
use Rattle.word_spans.proofs.scan.up_to_sixteen.Goals as goal

pub returns-then-to-from-le8 : goal.returns-then-to-from-le8
returns-then-to-from-le8 c =
    let a = c.args in
    c.joined.ensures
    ∙ bits-steps a.w.now 4 a.from (a.to - 4) a.to (omega (arith, c.requires.1)) (omega (arith, c.requires.1, c.requires.2, c.if-to-from-le8.true)) (omega (arith, c.requires.1)) c.requires.0 c.four.ensures
    c.four-then-to-from-le8.ensures

pub returns : goal.returns
returns c =
    let a = c.args in
    c.joined-2.ensures
    ∙ bits-steps a.w.now 8 a.from (a.to - 8) a.to (omega (arith, c.requires.1)) (omega (arith, c.requires.1, c.requires.2, c.if-to-from-le8.false)) (omega (arith, c.requires.1)) c.requires.0 c.eight.ensures
    c.eight-2.ensures
