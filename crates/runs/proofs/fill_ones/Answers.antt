use Prim.Native.Nat.{◌+◌, ◌<◌}
use native.Mathlib.Nat.{add-zero}
use native.Mathlib.Omega.{arith}
use mathlib.Core.Path.{◌≡◌}
use Rattle.wire.specs.Form.{rows}
use Rattle.runs.proofs.FillLoop.{start, next}
use Rattle.runs.proofs.fill_ones.Goals as goal

pub returns-then-old-n : goal.returns-then-old-n
returns-then-old-n c = (λ base. rw add-zero (start (rows c.args.form) _ base _ _ _ _ _ _ _ _ c.requires.0 c.requires.1), omega arith)

pub returns-then-end-at : goal.returns-then-end-at
returns-then-end-at c = (λ base. rw add-zero (start (rows c.args.form) _ base _ _ _ _ _ _ _ _ c.requires.0 c.requires.1), omega arith)

pub returns-then-end-at-2 : goal.returns-then-end-at-2
returns-then-end-at-2 c = (λ base. rw add-zero (start (rows c.args.form) _ base _ _ _ _ _ _ _ _ c.requires.0 c.requires.1), omega arith)

pub loop-i-init : goal.loop-i-init
loop-i-init c = λ base. rw add-zero (start (rows c.args.form) _ base _ _ _ _ _ _ _ _ c.requires.0 c.requires.1)

pub overflow_add-at : goal.overflow_add-at
overflow_add-at c = omega (arith, c.if-end-at-2.false, c.if-end-at.false, c.requires.0, c.loop-i-test.true)

pub one_at-requires : goal.one_at-requires
one_at-requires c = (
  omega (arith, c.if-end-at-2.false, c.if-end-at.false, c.requires.0, c.loop-i-test.true),
  omega (arith, c.if-old-n.false, c.loop-i-test.true),
)

pub shape_of-out-in_default : goal.shape_of-out-in_default
shape_of-out-in_default c = (c.loop-i.invariant 0).same

pub returns-in_default : goal.returns-in_default
returns-in_default c = (c.loop-i.invariant, omega (arith, c.loop-i-test.true, c.if-end-at-2.false))

pub overflow_add-out : goal.overflow_add-out
overflow_add-out c =
    let h = c.loop-i.invariant 0 in
    omega (arith, h.room, h.same, c.loop-i-test.true, c.well_formed.1.1.1.1.1.1.1.0)

pub offset_bounds-out-to : goal.offset_bounds-out-to
offset_bounds-out-to c =
    let h = c.loop-i.invariant 0 in
    omega (arith, h.room, h.same, c.loop-i-test.true, c.well_formed.1.1.1.1.1.1.1.0)

pub bounds-out-to : goal.bounds-out-to
bounds-out-to c =
    let h = c.loop-i.invariant 0 in
    omega (arith, h.room, h.same, c.loop-i-test.true, c.well_formed.1.1.1.1.1.1.1.0)

pub loop-i-preserved : goal.loop-i-preserved
loop-i-preserved c =
    let i = c.loop-i.i in
    let a = c.args in
    let here : a.at + i < a.end = omega (arith, c.if-end-at-2.false, c.if-end-at.false, c.loop-i-test.true) in
    λ base.
    let one = rw c.in-Some.is at (c.one_at.ensures base a.end here c.requires.0) in
    let e : a.at + i + 1 ≡ a.at + (i + 1) = omega arith in
    rw (← e)
    (next (rows a.form) _ base _ _ _ _ _ _ _ _ _ _ _ (c.loop-i.invariant base) c.loop-i-test.true _ _ one)

pub shape_of-out : goal.shape_of-out
shape_of-out c = (c.loop-i.invariant 0).same

pub returns : goal.returns
returns c =
    let i = c.loop-i.i in
    let e : c.args.n ≡ i = omega (arith, c.loop-i-test.false, c.loop-i.auto.i-end) in
    (λ base. rw (← e) at (c.loop-i.invariant base), c.if-end-at-2.false)
