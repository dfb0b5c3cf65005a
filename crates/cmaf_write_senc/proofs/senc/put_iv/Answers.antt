use Prim.Native.Nat.{◌+◌, ◌-◌}
use native.Mathlib.Omega.{arith}
use mathlib.Core.Path.{◌≡◌}
use Rattle.laws.proofs.LeftLaws.{left-all, left-room, left_less, left-none, left-same}
use Rattle.field_table.specs.Lines.{lines, line_for}
use Rattle.cmaf_write_senc.proofs.SencLaws.{iv-length, iv-next, iv-end}
use Rattle.cmaf_write_senc.proofs.senc.put_iv.Goals as goal

pub loop-j-init : goal.loop-j-init
loop-j-init c =
    let a = c.args in
    let e : a.i + a.k - a.i ≡ a.k = omega arith in
    rw e (left-all _ _ _ c.requires.i_in_bounds)

pub put_u64-p-requires : goal.put_u64-p-requires
put_u64-p-requires c =
    let l = c.loop-j in
    let a = c.args in
    omega (arith, left-room l.invariant, iv-length a.w.now (a.i + a.k - l.j) l.j)

pub loop-j-preserved : goal.loop-j-preserved
unfolding line_for lines
loop-j-preserved c =
    let l = c.loop-j in
    left_less l.invariant _ (iv-next _ _ l.j c.loop-j-test.true) c.put_u64-p.ensures

pub shape_of-out : goal.shape_of-out
shape_of-out c = left-same c.loop-j.invariant

pub returns : goal.returns
returns c = left-none c.loop-j.invariant (iv-end _ _ _ c.loop-j-test.false)
