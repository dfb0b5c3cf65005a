-- `wire::zigzag::distance` meets its contract, by the side that the new value is on; a distance that 64 bits cannot hold twice is too wide for
-- every form.
use native.Mathlib.Omega.{arith}
use mathlib.Core.Path.{◌≡◌, sym, ◌∙◌}
use Prim.Native.Nat.{◌+◌, ◌-◌, ◌*◌}
use Rattle.wire.specs.declared.zigzag.Coding.TheVariants.{Delta}
use Rattle.wire.specs.Zigzag.{wire_of}
use Rattle.wire.proofs.ZigzagLaws.{wire-below, wire-above, limit-64, code_is, fit_wide}
use Rattle.wire.proofs.zigzag.distance.Goals as goal

pub returns-in_err-checked_mul : goal.returns-in_err-checked_mul
returns-in_err-checked_mul c =
    let a = c.args in
    let e : wire_of Delta a.old a.new ≡ (a.old - a.new - 1) * 2 + 1 = wire-below _ _ c.if-new-old.true in
    c.from_residual.ensures ∙ sym (code_is _ _ _ _ e ∙ fit_wide _ _ (omega (arith, limit-64 a.form, c.in_err-checked_mul.ensures)))

pub returns-then-new-old : goal.returns-then-new-old
returns-then-new-old c =
    c.fit.ensures ∙ sym (code_is _ _ _ _ (wire-below _ _ c.if-new-old.true ∙ omega (arith, c.in_ok-checked_mul.ensures.1)))

pub returns-in_err-checked_mul-2 : goal.returns-in_err-checked_mul-2
returns-in_err-checked_mul-2 c =
    let a = c.args in
    let e : wire_of Delta a.old a.new ≡ (a.new - a.old) * 2 = wire-above _ _ c.if-new-old.false in
    c.from_residual-in_err-checked_mul-2.ensures
    ∙ sym (code_is _ _ _ _ e ∙ fit_wide _ _ (omega (arith, limit-64 a.form, c.in_err-checked_mul-2.ensures)))

pub returns : goal.returns
returns c =
    c.fit-2.ensures ∙ sym (code_is _ _ _ _ (wire-above _ _ c.if-new-old.false ∙ omega (arith, c.in_ok-checked_mul-2.ensures.1)))
