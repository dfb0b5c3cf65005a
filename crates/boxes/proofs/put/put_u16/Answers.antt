-- `boxes::put::put_u16` meets its contract, by the two halves of a number.
use native.Mathlib.Omega.{arith}
use Rattle.laws.specs.Bytes.{be}
use Rattle.boxes.proofs.BoxLaws.{halves}
use Rattle.boxes.proofs.put.put_u16.Goals as goal

pub put_u8-requires : goal.put_u8-requires
unfolding be
put_u8-requires c = omega arith

pub returns : goal.returns
returns c = halves 1 c.args.v c.put_u8-a.ensures c.put_u8.ensures
