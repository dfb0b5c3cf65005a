-- `field_rules::rules::coding_of` meets its contract, by cases on what an absent value counts as.
use native.Mathlib.Omega.{arith}
use Rattle.field_table.specs.declared.lines.Absent.TheVariants.{Middle}
use Rattle.field_rules.proofs.CodingLaws.{coding-is, coding-same}
use Rattle.field_rules.proofs.rules.coding_of.Goals as goal

pub returns-in-Middle : goal.returns-in-Middle
returns-in-Middle c = coding-is c.args.coding Middle c.in-Middle.is

pub returns-in-Zero : goal.returns-in-Zero
returns-in-Zero c = coding-same c.args.coding c.args.absent (λ e. let f = c.in-Zero.is in grind arith)
