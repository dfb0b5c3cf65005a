-- `boxes::put::put_u8` meets its contract: one store is a write of one byte.
use Prim.Native.Nat.{◌%◌}
use native.Mathlib.Nat.{div-one}
use native.Mathlib.Omega.{arith}
use mathlib.Core.List.{[], ◌∷◌}
use Rattle.laws.specs.Bytes.{be}
use Rattle.laws.proofs.WriteLaws.{wrote-sets}
use Rattle.boxes.proofs.put.put_u8.Goals as goal

pub returns : goal.returns
unfolding be
returns c = rw div-one (wrote-sets c.args.out.now c.args.at ((c.args.v % 256) ∷ []) (omega arith))
