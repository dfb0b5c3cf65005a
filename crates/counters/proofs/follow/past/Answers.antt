-- `counters::follow::past` meets its contract: a sample that isn't the last, or the last.
use native.Mathlib.Omega.{arith}
use mathlib.Core.Path.{refl}
use mathlib.Core.Logic.{inl, inr}
use Rattle.field_table.specs.Lines.{lines, line_for}
use Rattle.counters.proofs.follow.past.Goals as goal

pub protected_of-requires : goal.protected_of-requires
protected_of-requires c = record { summable = (c.requires.0, c.if-i-x.true); w_bound = λ on. c.requires.2 }

pub overflow_add-result-then-i-x : goal.overflow_add-result-then-i-x
unfolding lines line_for
overflow_add-result-then-i-x c = omega (arith, c.requires.2)

pub returns-then-i-x : goal.returns-then-i-x
unfolding lines line_for
returns-then-i-x c =
    let p = c.protected_of in
    record { own = refl; small = p.ensures.1; on = inl (c.if-i-x.true, p.ensures.0, refl) }

pub returns : goal.returns
returns c = record { own = refl; small = omega arith; on = inr (omega (arith, c.if-i-x.false), refl) }
