use native.Mathlib.Omega.{arith}
use mathlib.Core.Path.{sym, ◌∙◌}
use Rattle.wire.specs.Form.{rows}
use Rattle.wire.proofs.FormLaws.{lawful}
use Rattle.runs.proofs.MeasureLoop.{start, end, wide, short, next}
use Rattle.runs.proofs.measure.Goals as goal

pub loop-i-init : goal.loop-i-init
loop-i-init c = let a = c.args in start (rows a.form) _ _ _ _

pub returns-in_err-z : goal.returns-in_err-z
returns-in_err-z c =
    rw c.from_residual.ensures
    (wide _ _ _ _ _ _ _ c.loop-i.invariant c.loop-i-test.true (rw c.old_at.ensures at (sym c.code.ensures ∙ c.in_err-z.was)))

pub overflow_add-sum : goal.overflow_add-sum
overflow_add-sum c =
    let w = lawful c.args.form in
    omega (
      arith,
      c.size-sum.ensures,
      c.loop-i.invariant.few,
      short _ _ _ _ _ _ _ c.loop-i.invariant c.loop-i-test.true w _ (rw c.old_at.ensures at (sym c.code.ensures ∙ c.in_ok-z.was)),
    )

pub loop-i-preserved : goal.loop-i-preserved
loop-i-preserved c =
    let w = lawful c.args.form in
    rw c.size-sum.ensures (next _ _ _ _ _ _ _ c.loop-i.invariant c.loop-i-test.true w _ (rw c.old_at.ensures at (sym c.code.ensures ∙ c.in_ok-z.was)))

pub returns : goal.returns
returns c = end _ _ _ _ _ _ _ c.loop-i.invariant c.loop-i-test.false
