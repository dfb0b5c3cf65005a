-- `cmaf_read_trun::rows::columns_in` meets its contract: it counts the four columns.
use native.Mathlib.Omega.{arith}
use Rattle.cmaf_read_trun.specs.Rows.{columns_in}
use Rattle.cmaf_read_trun.proofs.rows.columns_in.Goals as goal

pub returns : goal.returns
unfolding columns_in
returns c = (cc, omega arith)
