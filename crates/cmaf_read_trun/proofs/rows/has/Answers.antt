-- `cmaf_read_trun::rows::has` meets its contract.
use Prim.Native.Nat.{ℕ}
use mathlib.Core.Path.{ap}
use lib.Dec.{eqb}
use Rattle.cmaf_read_trun.specs.Rows.{has_column}
use Rattle.cmaf_read_trun.proofs.RowLaws.{column-some}
use Rattle.cmaf_read_trun.proofs.rows.has.Goals as goal

pub bit-requires : goal.bit-requires
bit-requires c = column-some _ c.requires

pub returns : goal.returns
unfolding has_column
returns c = ap (λ (n : ℕ). eqb n 1) c.bit.ensures.0
