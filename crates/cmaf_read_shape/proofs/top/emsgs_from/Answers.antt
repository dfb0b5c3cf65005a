use native.Mathlib.Omega.{arith}
use borrow.Author.Rules.{rules}
use Rattle.cmaf_read_shape.proofs.RunLaws.{run-start, run_end, run-stop, run_room, run_long, run_on, run-is-in}
use Rattle.cmaf_read_shape.proofs.top.emsgs_from.Goals as goal

pub loop-p-init : goal.loop-p-init
loop-p-init c = run-start _ _ c.requires

pub returns-then-b-eq0 : goal.returns-then-b-eq0
returns-then-b-eq0 c =
    run-is-in _ _ c.requires
    (run-stop c.loop-p.invariant c.box_at-b.ensures c.if-b-eq0.true)

pub overflow_add-p : goal.overflow_add-p
overflow_add-p c =
    let h = run_room c.loop-p.invariant c.box_at-b.ensures c.if-b-eq0.false in
    search rules

pub loop-p-smaller : goal.loop-p-smaller
loop-p-smaller c =
    let h = run_long c.loop-p.invariant c.box_at-b.ensures c.if-b-eq0.false in
    omega arith

pub loop-p-preserved : goal.loop-p-preserved
loop-p-preserved c = run_on c.loop-p.invariant c.box_at-b.ensures c.if-b-eq0.false

pub returns : goal.returns
returns c = run-is-in _ _ c.requires (run_end c.loop-p.invariant c.loop-p-test.false)
