use Rattle.cmaf_read_prelude.proofs.EventLaws.{storing-start, storing-next, storing-end}
use Rattle.cmaf_read_prelude.proofs.emsg.store.Goals as goal

pub loop-i-init : goal.loop-i-init
loop-i-init c = storing-start _ _ _ c.requires

pub loop-i-preserved : goal.loop-i-preserved
loop-i-preserved c = storing-next _ _ _ _ _ c.loop-i.invariant c.loop-i-test.true

pub shape_of-out : goal.shape_of-out
shape_of-out c = c.loop-i.invariant.same

pub returns : goal.returns
returns c = record { out_after = storing-end _ _ _ _ _ c.loop-i.invariant c.loop-i-test.false; out_len_unchanged = c.loop-i.invariant.same }
