use Rattle.cmaf_read_rules.proofs.PairLaws.{adding-start, adding-next, adding-end}
use Rattle.cmaf_read_rules.proofs.protection.pairs_sum.Goals as goal

pub loop-p-init : goal.loop-p-init
loop-p-init c = adding-start _ _ _

pub loop-p-preserved : goal.loop-p-preserved
loop-p-preserved c =
    let u = c.u16_at.ensures in
    let v = c.u32_at.ensures in
    adding-next c.loop-p.invariant _ _ u.0 v.0 u.1 v.1 c.loop-p-test.true

pub returns : goal.returns
returns c = adding-end c.loop-p.invariant c.loop-p-test.false
