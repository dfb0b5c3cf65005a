-- `cmaf_read_trun::columns::column_plain` meets its contract: the test of flags is that of the rule.
use native.Mathlib.Omega.{arith}
use Rattle.std.proofs.lemmas.Grind.{common_steps}
use mathlib.Core.Path.{◌∙◌}
use Rattle.media.specs.Flags.{only}
use Rattle.cmaf_read_trun.proofs.RowLaws.{flags-column}
use Rattle.cmaf_read_trun.proofs.SampleLaws.{by-only}
use Rattle.cmaf_read_trun.proofs.columns.column_plain.Goals as goal

pub column_all-requires-clause-column_value : goal.column_all-requires-clause-column_value
column_all-requires-clause-column_value c = flags-column

pub returns : goal.returns
returns c = c.column_all.ensures only (λ v b small post. grind (arith, common_steps)) ∙ by-only _
