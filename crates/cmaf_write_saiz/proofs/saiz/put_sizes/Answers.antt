use Prim.Native.Nat.{◌-◌}
use native.Mathlib.Nat.{sub-zero}
use native.Mathlib.Omega.{arith}
use Rattle.laws.proofs.LeftLaws.{left-all, left-room, left_less, left-none, left-same}
use Rattle.field_set.specs.Lawful.{count_in}
use Rattle.cmaf_write_saiz.proofs.SaizLaws.{sizes-length, sizes-next, sizes-end}
use Rattle.cmaf_write_saiz.proofs.saiz.put_sizes.Goals as goal

pub loop-i-init : goal.loop-i-init
loop-i-init c = rw sub-zero (left-all _ _ _ c.requires.w_in_bounds)

pub put_u8-p-requires : goal.put_u8-p-requires
put_u8-p-requires c =
    let l = c.loop-i in
    let a = c.args in
    omega (arith, left-room l.invariant, sizes-length a.t a.w.now (count_in a.w.now - l.i) l.i)

pub loop-i-preserved : goal.loop-i-preserved
loop-i-preserved c =
    let s = c.info_size in
    let l = c.loop-i in
    left_less l.invariant _ (sizes-next _ _ _ l.i c.loop-i-test.true s.ensures.0 s.ensures.1) c.put_u8-p.ensures

pub shape_of-out : goal.shape_of-out
shape_of-out c = left-same c.loop-i.invariant

pub returns : goal.returns
returns c = left-none c.loop-i.invariant (sizes-end _ _ _ _ c.loop-i-test.false)
