-- `iv_counter::put_counter` meets its contract, for each size of an IV.
use borrow.Author.Rules.{rules}
use Prim.Native.Nat.{ℕ, ◌+◌, ◌*◌}
use native.Mathlib.Numerals.{add-one}
use native.Mathlib.Omega.{arith}
use mathlib.Core.Path.{refl, sym, ap}
use mathlib.Core.List.{[], ◌∷◌}
use lib.ListN.{set, length-set}
use Rattle.field_table.specs.Lines.{ivs_at}
use Rattle.iv_counter.proofs.CounterLaws.{iv-place, one_word, words-one, words-two}
use Rattle.iv_counter.proofs.put_counter.Goals as goal

pub overflow_mul-at : goal.overflow_mul-at
overflow_mul-at c = omega (arith, iv-place c.args.k c.args.i c.requires.1 c.requires.2)

pub overflow_add-at : goal.overflow_add-at
overflow_add-at c = omega (arith, iv-place c.args.k c.args.i c.requires.1 c.requires.2)

pub offset_bounds-x-at : goal.offset_bounds-x-at
offset_bounds-x-at c = omega (arith, iv-place c.args.k c.args.i c.requires.1 c.requires.2)

pub bounds-x-at : goal.bounds-x-at
bounds-x-at c = omega (arith, iv-place c.args.k c.args.i c.requires.1 c.requires.2)

pub overflow_add-x : goal.overflow_add-x
overflow_add-x c = omega (arith, iv-place c.args.k c.args.i c.requires.1 c.requires.2)

pub offset_bounds-x-at-then-k-eq2 : goal.offset_bounds-x-at-then-k-eq2
offset_bounds-x-at-then-k-eq2 c = omega (arith, iv-place c.args.k c.args.i c.requires.1 c.requires.2)

pub bounds-x-at-then-k-eq2 : goal.bounds-x-at-then-k-eq2
bounds-x-at-then-k-eq2 c = simp length-set (omega (arith, iv-place c.args.k c.args.i c.requires.1 c.requires.2))

pub offset_bounds-x-at-else-k-eq2 : goal.offset_bounds-x-at-else-k-eq2
offset_bounds-x-at-else-k-eq2 c = omega (arith, iv-place c.args.k c.args.i c.requires.1 c.requires.2)

pub bounds-x-at-else-k-eq2 : goal.bounds-x-at-else-k-eq2
bounds-x-at-else-k-eq2 c = omega (arith, iv-place c.args.k c.args.i c.requires.1 c.requires.2)

pub returns-then-k-eq2 : goal.returns-then-k-eq2
returns-then-k-eq2 c =
    let a = c.args in
    let at = ivs_at + 1 + a.i * a.k in
    let both = ap (λ (j : ℕ). set (set a.x.now at a.c.high) j a.c.low) (add-one at) in
    let low = c.well_formed.0.1.1.1.1.0.1 in
    let high = c.well_formed.0.1.1.1.0.1 in (
      search rules,
      (a.c.high ∷ (a.c.low ∷ []), sym c.if-k-eq2.true, both),
      λ n h good. rw (words-two a.k n a.c h good low c.if-k-eq2.true high) both,
    )

pub returns-else-k-eq2 : goal.returns-else-k-eq2
returns-else-k-eq2 c =
    let a = c.args in (
      search rules,
      (a.c.low ∷ [], sym (one_word a.k c.requires.1 c.if-k-eq2.false), refl),
      λ n h good. rw (words-one a.k n a.c h good c.well_formed.0.1.1.1.1.0.1 (one_word a.k c.requires.1 c.if-k-eq2.false)),
    )
