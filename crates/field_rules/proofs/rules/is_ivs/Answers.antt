-- `field_rules::rules::is_ivs` meets its contract, by cases on what the line wants.
use native.Mathlib.Omega.{arith}
use Rattle.field_table.specs.declared.lines.Want.TheVariants.{Ivs}
use Rattle.field_rules.proofs.CodingLaws.{ivs-is, ivs-not}
use Rattle.field_rules.proofs.rules.is_ivs.Goals as goal

pub returns-in-Ivs : goal.returns-in-Ivs
returns-in-Ivs c = ivs-is Ivs c.in-Ivs.is

pub returns-in-One : goal.returns-in-One
returns-in-One c = ivs-not c.args.want (λ e. let f = c.in-One.is in grind arith)
