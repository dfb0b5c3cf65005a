use native.Mathlib.Omega.{arith}
use lib.ListN.{length-set}
use Rattle.cmaf_read_set.proofs.EntryLoops.{pairs_start, pairs_next, pairs_end}
use Rattle.cmaf_read_set.proofs.entries.put_pairs.Goals as goal

pub loop-j-init : goal.loop-j-init
loop-j-init c = pairs_start _ _ _ _ _ c.requires

pub bounds-x-i-in-loop-j : goal.bounds-x-i-in-loop-j
bounds-x-i-in-loop-j c = simp length-set (omega (arith, c.loop-j.invariant.same, c.loop-j.invariant.long))

pub loop-j-preserved : goal.loop-j-preserved
loop-j-preserved c =
    rw (c.u16_at.ensures.0, c.u32_at.ensures.0)
    (pairs_next _ _ _ _ _ _ _ c.loop-j.invariant c.loop-j-test.true)

pub returns : goal.returns
returns c = pairs_end _ _ _ _ _ _ _ c.loop-j.invariant c.loop-j-test.false
