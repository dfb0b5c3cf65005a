-- `cmaf_read_rules::samples::flags_ok` meets its contract.
use Rattle.cmaf_read_rules.proofs.RuleLaws.{flags-by}
use Rattle.cmaf_read_rules.proofs.samples.flags_ok.Goals as goal

pub returns : goal.returns
returns c =
    let a = c.args in
    flags-by a.c.now a.trun a.default a.r _ _ _ _
    c.plain.ensures c.plain-2.ensures c.first_flags.ensures.0 c.column_plain.ensures
