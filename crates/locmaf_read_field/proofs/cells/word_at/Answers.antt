use Prim.Native.Nat.{◌+◌}
use native.Mathlib.Omega.{arith}
use Rattle.locmaf_read_field.proofs.PackLoop.{read_none, read-room, read_more, read_all}
use Rattle.locmaf_read_field.proofs.cells.word_at.Goals as goal

pub loop-i-init : goal.loop-i-init
loop-i-init c = read_none _ _ c.requires

pub overflow_mul-v : goal.overflow_mul-v
overflow_mul-v c = omega (arith, read-room _ _ _ _ c.loop-i.invariant c.loop-i-test.true)

pub overflow_add-v : goal.overflow_add-v
overflow_add-v c =
    omega (
      arith,
      read-room _ _ _ _ c.loop-i.invariant c.loop-i-test.true,
      c.type_inv.o (c.args.at + c.loop-i.i),
    )

pub loop-i-preserved : goal.loop-i-preserved
loop-i-preserved c =
    rw c.wide.ensures
    (read_more _ _ _ _ c.loop-i.invariant c.loop-i-test.true
    (c.type_inv.o (c.args.at + c.loop-i.i)).fits)

pub returns : goal.returns
returns c = read_all _ _ _ _ c.loop-i.invariant c.loop-i-test.false
