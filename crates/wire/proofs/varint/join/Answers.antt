use native.Mathlib.Omega.{arith}
use mathlib.Core.Path.{refl}
use Rattle.wire.proofs.JoinLoop.{next, next-room, joined}
use Rattle.wire.proofs.varint.join.Goals as goal

pub loop-i-init : goal.loop-i-init
loop-i-init c = record { low = omega arith; high = c.requires.from_le_to.0; inside = c.requires.from_le_to.1; room = c.requires.from_bound; whole = refl }

pub overflow_mul-v : goal.overflow_mul-v
overflow_mul-v c = omega (arith, next-room _ _ _ _ _ _ c.loop-i.invariant c.loop-i-test.true)

pub overflow_add-v : goal.overflow_add-v
overflow_add-v c =
    omega
    (arith, next-room _ _ _ _ _ _ c.loop-i.invariant c.loop-i-test.true, c.type_inv.s c.loop-i.i)

pub loop-i-preserved : goal.loop-i-preserved
loop-i-preserved c =
    rw c.wide.ensures
    (next _ _ _ _ _ _ c.loop-i.invariant c.loop-i-test.true (c.type_inv.s c.loop-i.i).fits)

pub returns : goal.returns
returns c = joined _ _ _ _ _ _ c.loop-i.invariant c.loop-i-test.false
