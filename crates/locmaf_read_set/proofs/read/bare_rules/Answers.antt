-- `locmaf_read_set::read::bare_rules` meets its contract: two tests with one number.
use Rattle.locmaf_read_set.proofs.BareLaws.{bare-number}
use Rattle.locmaf_read_set.proofs.read.bare_rules.Goals as goal

pub returns-then-brands_fit-rules_ok : goal.returns-then-brands_fit-rules_ok
returns-then-brands_fit-rules_ok c = bare-number _ _ _ _ _ c.brands_fit.ensures c.rules_ok.ensures _ c.if-brands_fit-rules_ok.true

pub returns : goal.returns
returns c = bare-number _ _ _ _ _ c.brands_fit.ensures c.rules_ok.ensures _ c.if-brands_fit-rules_ok.false
