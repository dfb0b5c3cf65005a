-- `field_rules::rules::absent_value` meets its contract, by cases on what an absent value counts as.
use Rattle.field_table.specs.declared.lines.Absent.TheVariants.{Zero, Middle, Description, Duration, Size, Flags, IvSize}
use Rattle.field_table.specs.Lines.{absent_value}
use Rattle.field_rules.proofs.CodingLaws.{absent-is}
use Rattle.field_rules.proofs.rules.absent_value.Goals as goal

pub returns-in-Zero : goal.returns-in-Zero
unfolding absent_value
returns-in-Zero c = absent-is Zero c.args.t c.in-Zero.is

pub returns-in-Middle : goal.returns-in-Middle
unfolding absent_value
returns-in-Middle c = absent-is Middle c.args.t c.in-Middle.is

pub returns-in-Description : goal.returns-in-Description
unfolding absent_value
returns-in-Description c = absent-is Description c.args.t c.in-Description.is

pub returns-in-Duration : goal.returns-in-Duration
unfolding absent_value
returns-in-Duration c = absent-is Duration c.args.t c.in-Duration.is

pub returns-in-Size : goal.returns-in-Size
unfolding absent_value
returns-in-Size c = absent-is Size c.args.t c.in-Size.is

pub returns-in-Flags : goal.returns-in-Flags
unfolding absent_value
returns-in-Flags c = absent-is Flags c.args.t c.in-Flags.is

pub returns-in-IvSize : goal.returns-in-IvSize
unfolding absent_value
returns-in-IvSize c = absent-is IvSize c.args.t c.in-IvSize.is
