use native.Mathlib.Omega.{arith}
use Rattle.field_table.specs.Lines.{lines, line_for}
use Rattle.told_sizes.proofs.ToldLaws.{agree-start, agree-fits, agree-small, agree-next, agree-end}
use Rattle.told_sizes.proofs.told.pairs_ok.Goals as goal

pub loop-i-init : goal.loop-i-init
loop-i-init c = agree-start _ c.requires.summable

pub pair_bytes-bytes-requires : goal.pair_bytes-bytes-requires
unfolding lines line_for
pair_bytes-bytes-requires c =
    let s = c.requires in
    record { summable = s.summable; k_bound = agree-fits _ s.summable s.w_value _ _ _ _ c.loop-i.invariant c.loop-i-test.true }

pub overflow_add-all : goal.overflow_add-all
unfolding lines line_for
overflow_add-all c =
    let s = c.requires in
    omega (arith, agree-small _ s.summable s.w_value _ _ _ _ c.loop-i.invariant c.loop-i-test.true, c.pair_bytes-bytes.ensures.1)

pub overflow_add-j : goal.overflow_add-j
unfolding lines line_for
overflow_add-j c =
    let s = c.requires in
    omega (arith, agree-fits _ s.summable s.w_value _ _ _ _ c.loop-i.invariant c.loop-i-test.true)

pub loop-i-preserved : goal.loop-i-preserved
unfolding lines line_for
loop-i-preserved c =
    let s = c.requires in
    agree-next _ s.summable s.w_value _ _ _ _ c.loop-i.invariant c.loop-i-test.true _ c.pair_bytes-bytes.ensures.0 _ c.may_have-ok.ensures

pub returns : goal.returns
returns c = let s = c.requires in agree-end _ s.summable s.w_value _ _ _ _ c.loop-i.invariant c.loop-i-test.false
