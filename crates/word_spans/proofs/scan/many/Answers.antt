use native.Mathlib.Omega.{arith}
use mathlib.Core.Path.{◌∙◌}
use Rattle.word_spans.proofs.ScanLaws.{collect-start, collect-run, collect-last, collect-end}
use borrow.Author.Rules.{rules}
use Rattle.word_spans.proofs.scan.many.Goals as goal
use Rattle.word_spans.proofs.scan.many.Goals.{then-i-to, else-i-to}

pub loop-i-init : goal.loop-i-init
loop-i-init c = collect-start _ _ _ c.requires.0 (omega (arith, c.requires.1))

pub loop-i-preserved : goal.loop-i-preserved
loop-i-preserved c =
    let h = c.loop-i.invariant in
    rw c.joined-all.ensures (collect-run _ _ _ _ _ h _ (omega arith) (search rules) c.sixty_four.ensures)

pub loop-i-2-preserved : goal.loop-i-2-preserved
loop-i-2-preserved c =
    let h = c.loop-i-2.invariant in
    rw c.joined-all-in-loop-i-2.ensures (collect-run _ _ _ _ _ h _ (omega arith) (search rules) c.sixteen.ensures)

pub returns : goal.returns
returns c =
    let h = c.loop-i-2.invariant in
    elim c.if-i-to.branch [
      | then-i-to w ↦
          let k = w.last_step.ensures in
          rw w.all-is
          (w.joined-all-then-i-to.ensures ∙ collect-last _ _ _ _ _ h k.0 (omega (arith, c.requires.1, k.1)) k.2 k.3)
      | else-i-to w ↦ rw w.all-is (collect-end _ _ _ _ _ h w.if-i-to.false)
    ]
