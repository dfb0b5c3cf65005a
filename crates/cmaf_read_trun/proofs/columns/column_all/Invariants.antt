-- `cmaf_read_trun::columns::column_all` meets its contract, by the row of tests that is left.
use Prim.Native.Nat.{ℕ, ◌^◌, ◌<◌}
use mathlib.Core.Path.{◌≡◌}
use mathlib.Core.Bool.{Bool, true}
use Rattle.laws.proofs.RowLaws.{Tested}
use Rattle.cmaf_read_trun.specs.Rows.{has_column, cell}
use Rattle.cmaf_read_trun.specs.Samples.{each_from}
use Rattle.cmaf_read_trun.specs.Columns.{all_by}
use Rattle.cmaf_read_trun.proofs.columns.column_all.Given as goal

abbrev pub invariant-loop-i : goal.invariant-loop-i
invariant-loop-i g l = record {
  all_rows : l.n ≡ l.r.count;
  stands : has_column l.r l.column ≡ true;
  tested : (holds : ℕ → Bool) → ((v : ℕ) (b : Bool) → v < 2 ^ 32 → goal.F-post g l.test v b → b ≡ holds v)
      → Tested (λ k j. all_by holds (each_from (cell l.c l.r l.column) k j)) l.n l.ok l.i;
}
