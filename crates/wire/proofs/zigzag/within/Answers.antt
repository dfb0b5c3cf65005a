-- `wire::zigzag::within` meets its contract: its test is the range's.
use native.Mathlib.Omega.{arith}
use mathlib.Core.Path.{sym}
use Rattle.wire.proofs.ZigzagLaws.{plain_in, plain-past}
use Rattle.wire.proofs.zigzag.within.Goals as goal

pub returns-then-v-bound : goal.returns-then-v-bound
returns-then-v-bound c = let a = c.args in sym (plain_in 0 a.bound a.v (omega arith))

pub returns : goal.returns
returns c = let a = c.args in sym (plain-past 0 a.bound a.v (omega arith))
