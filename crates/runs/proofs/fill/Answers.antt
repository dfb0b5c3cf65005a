-- `runs::fill` meets its contract: `fill_rest` goes on from what `fill_ones` left.
use native.Mathlib.Omega.{arith}
use Rattle.wire.specs.Form.{rows}
use Rattle.runs.proofs.FillLoop.{past}
use Rattle.runs.proofs.fill.Goals as goal

pub returns-then-s-end : goal.returns-then-s-end
returns-then-s-end c = let a = c.args in past (rows a.form) _ _ _ _ a.at _ _ _ _ _ c.if-s-end.true

pub fill_ones-i-requires : goal.fill_ones-i-requires
fill_ones-i-requires c = (c.if-s-end.false, c.requires)

pub overflow_add-at : goal.overflow_add-at
overflow_add-at c = omega (arith, c.fill_ones-i.ensures.1)

pub fill_rest-requires : goal.fill_rest-requires
fill_rest-requires c =
    let h = c.fill_ones-i.ensures.0 0 in
    omega (arith, h.same, h.room)

pub returns : goal.returns
returns c = c.fill_rest.ensures _ _ (c.fill_ones-i.ensures.0 _)
