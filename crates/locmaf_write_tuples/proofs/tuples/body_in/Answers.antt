use native.Mathlib.Omega.{arith}
use Rattle.wire.proofs.SizeLaws.{size-eight}
use Rattle.locmaf_write_tuples.proofs.TupleLaws.{takes-more, takes-less, above-start, above-next, above-end}
use Rattle.locmaf_write_tuples.proofs.tuples.body_in.Goals as goal

pub overflow_sub-n : goal.overflow_sub-n
overflow_sub-n c = let a = c.args in omega (arith, takes-more a.form a.m c.requires.0 (c.requires.1, c.requires.2))

pub loop-n-init : goal.loop-n-init
loop-n-init c = above-start _ _ c.requires.0 (c.requires.1, c.requires.2)

pub overflow_add-n : goal.overflow_add-n
overflow_add-n c =
    let b = c.loop-n in
    omega (arith, c.size.ensures, b.invariant.few, size-eight c.args.form b.n)

pub overflow_sub-n-in-loop-n : goal.overflow_sub-n-in-loop-n
overflow_sub-n-in-loop-n c =
    let a = c.args in
    let p = c.requires in
    omega (arith, takes-less a.form a.m c.loop-n.n (omega (arith, c.size.ensures)) p.0 (p.1, p.2))

pub loop-n-smaller : goal.loop-n-smaller
loop-n-smaller c =
    let a = c.args in
    let p = c.requires in
    omega (arith, takes-less a.form a.m c.loop-n.n (omega (arith, c.size.ensures)) p.0 (p.1, p.2))

pub loop-n-preserved : goal.loop-n-preserved
loop-n-preserved c = above-next _ _ _ c.loop-n.invariant (omega (arith, c.size.ensures))

pub returns : goal.returns
returns c = λ k few takes. above-end _ _ _ c.loop-n.invariant (omega (arith, c.size.ensures)) k (few, takes)
