use Rattle.locmaf_read_field.proofs.PackLoop.{pack-none, pack-more, pack-all}
use Rattle.locmaf_read_field.proofs.cells.pack.Goals as goal

pub loop-i-init : goal.loop-i-init
loop-i-init c = pack-none _ _ _ _ _ c.requires

pub loop-i-preserved : goal.loop-i-preserved
loop-i-preserved c = rw c.word_at.ensures (pack-more _ _ _ _ _ _ _ c.loop-i.invariant c.loop-i-test.true)

pub returns : goal.returns
returns c = pack-all _ _ _ _ _ _ _ c.loop-i.invariant c.loop-i-test.false
