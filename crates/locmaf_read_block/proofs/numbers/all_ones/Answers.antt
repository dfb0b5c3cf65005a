use native.Mathlib.Omega.{arith}
use Rattle.wire.specs.Form.{rows}
use Rattle.locmaf_read_block.proofs.OnesLaws.{few, asking-start, not-ones, asking-next, asked}
use mathlib.Core.Path.{ap}
use mathlib.Core.Bool.{not}
use Rattle.locmaf_read_block.proofs.numbers.all_ones.Goals as goal

pub returns-then-end-at-lt8 : goal.returns-then-end-at-lt8
returns-then-end-at-lt8 c =
    let a = c.args in
    few (rows a.form) a.s.now a.at a.end (omega arith)

pub loop-p-init : goal.loop-p-init
loop-p-init c = let h = c.requires in asking-start _ _ _ _ _ h.1 (omega arith) (omega arith)

pub eight_at-requires : goal.eight_at-requires
eight_at-requires c = let i = c.loop-p.invariant in omega (arith, i.bytes, i.eight)

pub returns-then-not-eight_at : goal.returns-then-not-eight_at
returns-then-not-eight_at c = not-ones _ _ _ _ _ _ c.loop-p.invariant c.loop-p-test.true c.eight_at.ensures (ap not c.if-not-eight_at.true)

pub overflow_add-p : goal.overflow_add-p
overflow_add-p c = let i = c.loop-p.invariant in omega (arith, i.bytes, i.eight, c.loop-p-test.true)

pub loop-p-smaller : goal.loop-p-smaller
loop-p-smaller c = let i = c.loop-p.invariant in omega (arith, i.eight, c.loop-p-test.true)

pub loop-p-preserved : goal.loop-p-preserved
loop-p-preserved c = asking-next _ _ _ _ _ _ c.loop-p.invariant c.loop-p-test.true c.eight_at.ensures (ap not c.if-not-eight_at.false)

pub eight_at-requires-2 : goal.eight_at-requires-2
eight_at-requires-2 c = let i = c.loop-p.invariant in omega (arith, i.bytes, i.eight)

pub returns : goal.returns
returns c = rw c.eight_at-2.ensures (asked _ _ _ _ _ _ c.loop-p.invariant c.loop-p-test.false)
