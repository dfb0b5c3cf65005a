-- `runs::old_at` meets its contract: inside a list the default doesn't matter.
use mathlib.Core.Path.{sym}
use lib.ListN.{get_or-eq_default}
use Rattle.laws.proofs.ListLaws.{get_d-in}
use Rattle.runs.proofs.old_at.Goals as goal

pub returns-then-i-old : goal.returns-then-i-old
returns-then-i-old c = let a = c.args in get_d-in a.old.now a.i _ _ c.if-i-old.true

pub returns-else-i-old : goal.returns-else-i-old
returns-else-i-old c = sym (get_or-eq_default c.args.old.now _ c.if-i-old.false)
