-- `cmaf_read_trun::columns::column_low` meets its contract: the test of an offset is that of the rule.
use Prim.Native.Nat.{ℕ}
use native.Mathlib.Omega.{arith}
use Rattle.std.proofs.lemmas.Grind.{common_steps}
use mathlib.Core.Path.{◌∙◌}
use lib.Dec.{leb}
use Rattle.cmaf_read_trun.specs.Columns.{offset_most}
use Rattle.cmaf_read_trun.proofs.RowLaws.{offsets-column}
use Rattle.cmaf_read_trun.proofs.SampleLaws.{by-bound}
use Rattle.cmaf_read_trun.proofs.columns.column_low.Goals as goal

pub column_all-requires-clause-column_value : goal.column_all-requires-clause-column_value
column_all-requires-clause-column_value c = offsets-column

pub returns : goal.returns
returns c = c.column_all.ensures (λ (v : ℕ). leb v offset_most) (λ v b small post. grind (arith, common_steps)) ∙ by-bound offset_most _
