-- `cmaf_read_rules::samples::offsets_ok` meets its contract.
use Rattle.cmaf_read_rules.proofs.RuleLaws.{offsets-signed, offsets-low}
use Rattle.cmaf_read_rules.proofs.samples.offsets_ok.Goals as goal

pub returns-then-r-eq1 : goal.returns-then-r-eq1
returns-then-r-eq1 c =
    let a = c.args in
    offsets-signed a.c.now a.r c.if-r-eq1.true

pub returns : goal.returns
returns c =
    let a = c.args in
    offsets-low a.c.now a.r c.if-r-eq1.false _ c.column_low.ensures
