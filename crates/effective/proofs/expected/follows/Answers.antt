-- `effective::expected::follows` meets its contract, whatever the sum is.
use native.Mathlib.Omega.{arith}
use Rattle.effective.proofs.ExpectedLaws.{follows_is}
use Rattle.effective.proofs.expected.follows.Goals as goal

pub returns : goal.returns
returns c = λ n e. let a = c.args in follows_is a.e a.bmdt n e (omega arith)
