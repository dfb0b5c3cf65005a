use Prim.Native.Nat.{◌+◌}
use native.Mathlib.Omega.{arith}
use mathlib.Core.Path.{sym, ◌∙◌}
use lib.Dec.{leb}
use Rattle.laws.proofs.TestLaws.{and_right}
use Rattle.wire.specs.Form.{rows}
use Rattle.wire.proofs.FormLaws.{lawful}
use Rattle.locmaf_read_block.proofs.ReadLaws.{found}
use Rattle.locmaf_read_block.proofs.OnesLaws.{count_ones}
use Rattle.locmaf_read_block.proofs.CountLoop.{past, start, done, cut, next}
use Rattle.locmaf_read_block.proofs.numbers.count.Goals as goal

pub returns-then-s-end : goal.returns-then-s-end
returns-then-s-end c = let a = c.args in past (rows a.form) a.s.now a.at _ c.if-s-end.true

pub returns-then-end-at : goal.returns-then-end-at
returns-then-end-at c =
    let a = c.args in
    done (rows a.form) a.s.now a.at a.end _ _ (start (rows a.form) a.s.now a.at a.end c.if-s-end.false) c.if-end-at.true

pub all_ones-requires : goal.all_ones-requires
all_ones-requires c = (c.if-end-at.false, c.if-s-end.false)

pub returns-then-all_ones : goal.returns-then-all_ones
returns-then-all_ones c =
    let a = c.args in
    count_ones (rows a.form) (lawful a.form) a.s.now a.at a.end c.if-s-end.false
    (and_right (leb (a.at + 8) a.end) _ (sym c.all_ones.ensures ∙ c.if-all_ones.true))

pub loop-p-init : goal.loop-p-init
loop-p-init c = start _ _ _ _ c.if-s-end.false

pub returns-in_err-next : goal.returns-in_err-next
returns-in_err-next c = rw c.from_residual.ensures (cut _ _ _ _ _ _ c.loop-p.invariant c.loop-p-test.true c.in_err-next.ensures)

pub overflow_add-n : goal.overflow_add-n
overflow_add-n c =
    let f = found _ _ _ _ _ _ c.in_ok-next.ensures in
    omega (arith, c.loop-p.invariant.few, c.loop-p.invariant.bytes, f.some, f.within)

pub loop-p-smaller : goal.loop-p-smaller
loop-p-smaller c = let f = found _ _ _ _ _ _ c.in_ok-next.ensures in omega (arith, f.some, f.within)

pub loop-p-preserved : goal.loop-p-preserved
loop-p-preserved c = next _ _ _ _ _ _ c.loop-p.invariant _ _ (found _ _ _ _ _ _ c.in_ok-next.ensures)

pub returns : goal.returns
returns c = done _ _ _ _ _ _ c.loop-p.invariant c.loop-p-test.false
