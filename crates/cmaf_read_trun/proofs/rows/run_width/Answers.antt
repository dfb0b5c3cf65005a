-- `cmaf_read_trun::rows::run_width` meets its contract.
use native.Mathlib.Omega.{arith}
use Rattle.cmaf_read_trun.specs.Rows.{run_width}
use Rattle.cmaf_read_trun.proofs.rows.run_width.Goals as goal

pub returns : goal.returns
unfolding run_width
returns c = (cc, omega arith)
