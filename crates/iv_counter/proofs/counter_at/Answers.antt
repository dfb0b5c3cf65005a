-- `iv_counter::counter_at` meets its contract, for each size of an IV.
use native.Mathlib.Omega.{arith}
use Rattle.iv_counter.proofs.CounterLaws.{iv-place, one_word, read_one, read-two}
use Rattle.iv_counter.proofs.counter_at.Goals as goal

pub overflow_mul-at : goal.overflow_mul-at
overflow_mul-at c = omega (arith, iv-place c.args.k c.args.i c.requires.1 c.requires.2)

pub overflow_add-at : goal.overflow_add-at
overflow_add-at c = omega (arith, iv-place c.args.k c.args.i c.requires.1 c.requires.2)

pub offset_bounds-w-at : goal.offset_bounds-w-at
offset_bounds-w-at c = omega (arith, iv-place c.args.k c.args.i c.requires.1 c.requires.2)

pub bounds-w-at : goal.bounds-w-at
bounds-w-at c = omega (arith, iv-place c.args.k c.args.i c.requires.1 c.requires.2)

pub overflow_add-result : goal.overflow_add-result
overflow_add-result c = omega (arith, iv-place c.args.k c.args.i c.requires.1 c.requires.2)

pub offset_bounds-w-at-then-k-eq2 : goal.offset_bounds-w-at-then-k-eq2
offset_bounds-w-at-then-k-eq2 c = omega (arith, iv-place c.args.k c.args.i c.requires.1 c.requires.2)

pub bounds-w-at-then-k-eq2 : goal.bounds-w-at-then-k-eq2
bounds-w-at-then-k-eq2 c = omega (arith, iv-place c.args.k c.args.i c.requires.1 c.requires.2)

pub returns-then-k-eq2 : goal.returns-then-k-eq2
returns-then-k-eq2 c =
    let a = c.args in
    let room = iv-place a.k a.i c.requires.1 c.requires.2 in
    read-two a.k a.i a.w.now (omega (arith, room)) (λ j. omega (arith, c.type_inv.w j)) c.if-k-eq2.true

pub offset_bounds-w-at-2 : goal.offset_bounds-w-at-2
offset_bounds-w-at-2 c = omega (arith, iv-place c.args.k c.args.i c.requires.1 c.requires.2)

pub bounds-w-at-2 : goal.bounds-w-at-2
bounds-w-at-2 c = omega (arith, iv-place c.args.k c.args.i c.requires.1 c.requires.2)

pub returns : goal.returns
returns c =
    let a = c.args in
    let room = iv-place a.k a.i c.requires.1 c.requires.2 in
    read_one a.k a.i a.w.now (omega (arith, room)) (λ j. omega (arith, c.type_inv.w j)) (one_word a.k c.requires.1 c.if-k-eq2.false)
