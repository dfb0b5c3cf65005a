-- `counters::protected::protected_of` meets its contract, by subsamples or by a size.
use native.Mathlib.Omega.{arith}
use Rattle.field_table.specs.Lines.{lines, line_for}
use Rattle.field_set.specs.Lawful.{value_at}
use Rattle.field_set.proofs.ValueLaws.{has_no, has-yes}
use Rattle.told_sizes.proofs.SumLaws.{protected-small}
use Rattle.counters.proofs.ProtectedLaws.{own-pairs, own-size}
use Rattle.counters.proofs.protected.protected_of.Goals as goal

pub overflow_add-from : goal.overflow_add-from
unfolding lines line_for
overflow_add-from c = omega (arith, c.requires.w_bound (has-yes 11 _ c.if-w-ne0.true))

pub overflow_add-from-then-w-ne0 : goal.overflow_add-from-then-w-ne0
unfolding lines line_for
overflow_add-from-then-w-ne0 c = omega (arith, c.requires.w_bound (has-yes 11 _ c.if-w-ne0.true))

pub add_up-requires : goal.add_up-requires
unfolding lines line_for
add_up-requires c =
    let a = c.args in
    let h = c.requires.w_bound (has-yes 11 _ c.if-w-ne0.true) in
    (omega (arith, h, c.requires.summable.0.words), omega (arith, protected-small c.requires.summable.0 a.j (value_at 11 a.i a.w.now) h))

pub returns-then-w-ne0 : goal.returns-then-w-ne0
unfolding lines line_for
returns-then-w-ne0 c =
    let a = c.args in
    let on = has-yes 11 a.w.now c.if-w-ne0.true in
    let small = protected-small c.requires.summable.0 a.j (value_at 11 a.i a.w.now) (c.requires.w_bound on) in
    (λ payload. own-pairs a.t a.w.now payload a.i a.j on _ c.add_up.ensures, omega (arith, c.add_up.ensures, small))

pub returns : goal.returns
unfolding lines line_for
returns c =
    let a = c.args in
    let off = has_no 11 a.w.now c.if-w-ne0.false in
    (λ payload. own-size a.t a.w.now payload a.i a.j off _ (c.told_size.ensures.0 payload), c.told_size.ensures.1)
