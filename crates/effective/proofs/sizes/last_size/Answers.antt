-- `effective::sizes::last_size` meets its contract, case by case as `size_of` has them.
use native.Mathlib.Omega.{arith}
use Prim.Native.Nat.{ℕ, ◌-◌}
use mathlib.Core.Path.{sym, ◌∙◌, ap}
use Rattle.field_table.specs.Lines.{lines, line_for}
use Rattle.field_set.specs.Lawful.{has}
use Rattle.field_set.proofs.ValueLaws.{has_no, has-yes, listed}
use Rattle.effective.proofs.SizeLaws.{last-lone, last_rest, last-default, last-trex}
use Rattle.effective.proofs.sizes.last_size.Goals as goal

pub returns-then-n-le1 : goal.returns-then-n-le1
returns-then-n-le1 c = sym (last-lone _ _ _ c.if-n-le1.true)

pub add_up-requires : goal.add_up-requires
unfolding has lines line_for
add_up-requires c =
    let w = c.args.w.now in
    let e = listed w c.if-n-le1.false (has-yes 1 w c.if-w-ne0.true) in
    (omega (arith, c.requires.w_len.0, c.requires.w_len.1), omega (arith, rw e at c.requires.sized.sizes, c.requires.sized.few))

pub overflow_sub-result : goal.overflow_sub-result
unfolding has lines line_for
overflow_sub-result c =
    let e = listed c.args.w.now c.if-n-le1.false (has-yes 1 c.args.w.now c.if-w-ne0.true) in
    omega (arith, c.add_up.ensures, rw e at c.requires.sized.sizes)

pub returns-then-w-ne0 : goal.returns-then-w-ne0
unfolding has lines line_for
returns-then-w-ne0 c =
    let w = c.args.w.now in
    let h = has-yes 1 w c.if-w-ne0.true in
    let e = listed w c.if-n-le1.false h in
    ap (λ (n : ℕ). c.args.payload - n) c.add_up.ensures ∙ rw (← e) (sym (last_rest _ w _ c.if-n-le1.false h))

pub returns-then-w-ne0-2 : goal.returns-then-w-ne0-2
unfolding has lines line_for
returns-then-w-ne0-2 c =
    let w = c.args.w.now in
    sym (last-default _ w _ c.if-n-le1.false (has_no 1 w c.if-w-ne0.false) (has-yes 6 w c.if-w-ne0-2.true))

pub returns : goal.returns
unfolding has lines line_for
returns c =
    let w = c.args.w.now in
    sym (last-trex _ w _ c.if-n-le1.false (has_no 1 w c.if-w-ne0.false) (has_no 6 w c.if-w-ne0-2.false))
