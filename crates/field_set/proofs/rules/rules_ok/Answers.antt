-- `field_set::rules::rules_ok` meets its contract: what stands by the marks, and the rules of that.
use Rattle.field_set.proofs.rules.rules_ok.Goals as goal

pub returns : goal.returns
returns c = c.together.ensures _ c.stands_of.ensures
