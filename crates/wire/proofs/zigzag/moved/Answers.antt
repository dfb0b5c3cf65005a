-- `wire::zigzag::moved` meets its contract: up from the old value by an even number, down by an odd one.
use native.Mathlib.Omega.{arith}
use Prim.Native.Nat.{◌+◌, ◌-◌, ◌/◌}
use mathlib.Core.Path.{◌≡◌, sym, ◌∙◌}
use Rattle.wire.proofs.ZigzagLaws.{plain-past, up, down, below-zero}
use Rattle.wire.proofs.zigzag.moved.Goals as goal

pub returns-in_err-checked_add : goal.returns-in_err-checked_add
returns-in_err-checked_add c =
    let a = c.args in
    c.from_residual.ensures
    ∙ sym
    (up a.old a.bound a.z c.if-z-eq0.true ∙ plain-past 0 a.bound (a.old + a.z / 2) (omega (arith, c.in_err-checked_add.ensures, c.ranges.bound)))

pub returns-then-z-eq0 : goal.returns-then-z-eq0
returns-then-z-eq0 c =
    let a = c.args in
    c.within.ensures ∙ rw c.in_ok-checked_add.ensures.1 (sym (up a.old a.bound a.z c.if-z-eq0.true))

pub returns-in_err-checked_sub : goal.returns-in_err-checked_sub
returns-in_err-checked_sub c =
    c.from_residual-in_err-checked_sub.ensures
    ∙ sym (below-zero _ _ _ c.if-z-eq0.false (omega (arith, c.in_err-checked_sub.ensures)))

pub returns : goal.returns
returns c =
    let a = c.args in
    let o = c.in_ok-checked_sub in
    let e : o.field-0 ≡ a.old - a.z / 2 - 1 = omega (arith, o.ensures.1) in
    c.within-2.ensures ∙ rw e (sym (down _ _ _ c.if-z-eq0.false (omega (arith, o.ensures.0))))
