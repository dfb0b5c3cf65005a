use native.Mathlib.Omega.{arith}
use Rattle.wire.proofs.PutLoop.{start, same, step, end}
use Rattle.wire.proofs.varint.put_low.Goals as goal

pub loop-j-init : goal.loop-j-init
loop-j-init c = start _ _ _ _ c.requires

pub bounds-out-at : goal.bounds-out-at
bounds-out-at c = omega (arith, same c.loop-j.invariant)

pub loop-j-preserved : goal.loop-j-preserved
loop-j-preserved c = step _ _ _ _ _ _ _ c.loop-j.invariant c.loop-j-test.true

pub shape_of-out : goal.shape_of-out
shape_of-out c = same c.loop-j.invariant

pub returns : goal.returns
returns c = end _ _ _ _ _ _ _ c.loop-j.invariant c.loop-j-test.false
