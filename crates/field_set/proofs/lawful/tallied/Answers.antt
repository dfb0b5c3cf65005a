use Prim.Native.Nat.{◌-◌}
use Rattle.field_set.proofs.TallyLaws.{tally-start, tally-more, tally-end}
use Rattle.field_set.proofs.lawful.tallied.Goals as goal

pub loop-i-init : goal.loop-i-init
loop-i-init c = tally-start _ _ _ _ c.requires.0 c.requires.1 c.requires.2

pub loop-i-preserved : goal.loop-i-preserved
loop-i-preserved c = tally-more _ _ _ _ _ _ _ c.loop-i.invariant c.loop-i-test.true

pub returns : goal.returns
returns c = tally-end _ _ _ _ _ _ _ c.loop-i.invariant c.loop-i-test.false
