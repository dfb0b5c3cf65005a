-- `cmaf_read_rules::all::outer_ok` meets its contract.
use Rattle.cmaf_read_rules.proofs.RuleLaws.{outer-by}
use Rattle.cmaf_read_rules.proofs.all.outer_ok.Goals as goal

pub returns : goal.returns
returns c = outer-by c.args.t c.args.c.now c.args.top c.args.d _ _ c.minor_version.ensures c.prft_track.ensures
