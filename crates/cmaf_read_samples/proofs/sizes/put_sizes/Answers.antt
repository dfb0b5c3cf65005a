use native.Mathlib.Omega.{arith}
use lib.ListN.{length-set}
use Rattle.cmaf_read_trun.proofs.EachLaws.{store-start, store-next, store-end}
use Rattle.cmaf_read_samples.proofs.SizeLaws.{several, sizes-none, sizes-stored}
use Rattle.cmaf_read_samples.proofs.sizes.put_sizes.Goals as goal

pub returns-then-r-equal : goal.returns-then-r-equal
returns-then-r-equal c =
    let a = c.args in
    sizes-none a.c.now a.r a.default a.equal a.x.now c.if-r-equal.true

pub overflow_sub-n : goal.overflow_sub-n
overflow_sub-n c =
    let a = c.args in
    omega (arith, several a.r.count a.equal c.if-r-equal.false)

pub loop-i-init : goal.loop-i-init
loop-i-init c = store-start _ _ _ _ (simp length-set (omega (arith, c.requires.sized, c.requires.x_len, several c.args.r.count c.args.equal c.if-r-equal.false)))

pub size_at-requires : goal.size_at-requires
size_at-requires c = record { rows_in = c.requires.sized.0; default_bound = c.requires.sized.2; i_lt_count = omega (arith, c.loop-i-test.true) }

pub loop-i-preserved : goal.loop-i-preserved
loop-i-preserved c = store-next _ _ _ _ _ _ c.loop-i.invariant c.loop-i-test.true _ c.size_at.ensures.0

pub shape_of-x : goal.shape_of-x
shape_of-x c = rw length-set at c.loop-i.invariant.same

pub returns : goal.returns
returns c =
    let a = c.args in
    sizes-stored a.c.now a.r a.default a.equal a.x.now c.if-r-equal.false (store-end _ _ _ _ _ _ c.loop-i.invariant c.loop-i-test.false)
