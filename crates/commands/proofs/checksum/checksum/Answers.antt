use native.Mathlib.Omega.{arith}
use Rattle.commands.proofs.ChecksumLaws.{sum-few, sum-start, sum_more, sum-end}
use Rattle.commands.proofs.checksum.checksum.Goals as goal

pub returns-then-s-n : goal.returns-then-s-n
returns-then-s-n c = sum-few _ _ (omega arith)

pub loop-i-init : goal.loop-i-init
loop-i-init c = sum-start _ _ (omega arith)

pub loop-i-preserved : goal.loop-i-preserved
loop-i-preserved c = sum_more _ _ _ _ c.loop-i.invariant c.loop-i-test.true

pub returns : goal.returns
returns c = sum-end _ _ _ _ c.loop-i.invariant c.loop-i-test.false
