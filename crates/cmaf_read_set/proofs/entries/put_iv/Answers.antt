use Rattle.cmaf_read_set.proofs.EntryLoops.{iv-start, iv-next, iv-end}
use Rattle.cmaf_read_set.proofs.entries.put_iv.Goals as goal

pub loop-j-init : goal.loop-j-init
loop-j-init c = iv-start _ _ _ _ _ c.requires

pub loop-j-preserved : goal.loop-j-preserved
loop-j-preserved c = rw c.u64_at.ensures (iv-next _ _ _ _ _ _ _ c.loop-j.invariant c.loop-j-test.true)

pub returns : goal.returns
returns c = iv-end _ _ _ _ _ _ _ c.loop-j.invariant c.loop-j-test.false
