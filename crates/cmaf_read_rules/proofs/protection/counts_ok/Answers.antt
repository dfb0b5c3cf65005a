-- `cmaf_read_rules::protection::counts_ok` meets its contract: by what the boxes say.
use Rattle.cmaf_read_rules.proofs.CountLaws.{counts-by}
use Rattle.cmaf_read_rules.proofs.protection.counts_ok.Goals as goal

pub returns : goal.returns
returns c =
    let a = c.args in
    counts-by a.t a.c.now a.saiz a.e a.r _ c.saiz_count.ensures.0
