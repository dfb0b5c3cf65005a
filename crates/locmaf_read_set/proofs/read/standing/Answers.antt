use Rattle.locmaf_read_set.proofs.StandingLaws.{marking-start, marking-end, marking-set, marking-keep}
use Rattle.locmaf_read_set.proofs.read.standing.Goals as goal
use Rattle.locmaf_read_set.proofs.read.standing.Goals.{then-stays, else-stays}

pub loop-i-init : goal.loop-i-init
loop-i-init c = marking-start _ _ _ _

pub stays-requires : goal.stays-requires
stays-requires c = let p = c.requires in (c.loop-i-test.true, p)

pub loop-i-preserved : goal.loop-i-preserved
loop-i-preserved c =
    let h = c.loop-i.invariant in
    let lt = c.loop-i-test.true in
    let eb = c.stays.ensures in
    elim c.if-stays.branch [
      | then-stays w ↦ marking-set _ _ _ _ _ _ h lt _ eb w.if-stays.true _ w.m-is
      | else-stays w ↦ marking-keep _ _ _ _ _ _ h lt _ eb w.if-stays.false _ w.m-is
    ]

pub returns : goal.returns
returns c = marking-end _ _ _ _ _ _ c.loop-i.invariant c.loop-i-test.false
