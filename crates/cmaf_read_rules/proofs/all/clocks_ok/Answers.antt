use mathlib.Core.Path.{refl}
use Rattle.laws.proofs.RowLaws.{tests-start, tests-next, tests-end}
use Rattle.cmaf_read_rules.proofs.ClockLaws.{clocks-row}
use Rattle.cmaf_read_rules.proofs.all.clocks_ok.Goals as goal

pub loop-i-init : goal.loop-i-init
loop-i-init c = tests-start (clocks-row _ _) _

pub loop-i-preserved : goal.loop-i-preserved
loop-i-preserved c = tests-next (clocks-row _ _) c.loop-i.invariant c.loop-i-test.true _ refl

pub returns : goal.returns
returns c = tests-end (clocks-row _ _) c.loop-i.invariant c.loop-i-test.false
