-- `cmaf_read_rules::samples::sizes_ok` meets its contract.
use Rattle.cmaf_read_rules.proofs.RuleLaws.{sizes-by}
use Rattle.cmaf_read_rules.proofs.samples.sizes_ok.Goals as goal

pub returns : goal.returns
returns c =
    let a = c.args in
    sizes-by a.c.now a.mdat a.default a.r _ _
    c.sizes_sum.ensures c.body-payload.ensures
