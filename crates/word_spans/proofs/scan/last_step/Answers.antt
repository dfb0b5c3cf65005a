-- `word_spans::scan::last_step` meets its contract: it ends where the words do, and begins no later than they.
use Prim.Native.Nat.{◌+◌, ◌-◌}
use native.Mathlib.Omega.{arith}
use mathlib.Core.Path.{◌≡◌}
use Rattle.word_spans.proofs.scan.last_step.Goals as goal

pub returns-then-to-i-le4 : goal.returns-then-to-i-le4
returns-then-to-i-le4 c =
    let to = c.args.to in
    let end : to - 4 + 4 ≡ to = omega (arith, c.requires.3) in
    (to - 4, omega (arith, c.requires.3), omega (arith, c.requires.2, c.requires.3, c.if-to-i-le4.true), rw end at c.four.ensures)

pub returns : goal.returns
returns c =
    let to = c.args.to in
    let end : to - 16 + 16 ≡ to = omega (arith, c.requires.3) in
    (to - 16, omega (arith, c.requires.3), omega (arith, c.requires.2, c.requires.3, c.if-to-i-le4.false), rw end at c.sixteen.ensures)
