-- `boxes::put::put_u64` meets its contract, by the two halves of a number.
use native.Mathlib.Omega.{arith}
use Rattle.laws.specs.Bytes.{be}
use Rattle.boxes.proofs.BoxLaws.{halves}
use Rattle.boxes.proofs.put.put_u64.Goals as goal

pub put_u32-requires : goal.put_u32-requires
unfolding be
put_u32-requires c = omega arith

pub returns : goal.returns
returns c = halves 4 c.args.v c.put_u32-a.ensures c.put_u32.ensures
