-- `cmaf_read_trun::rows::run_head` meets its contract.
use native.Mathlib.Omega.{arith}
use Rattle.cmaf_read_trun.specs.Rows.{run_head}
use Rattle.cmaf_read_trun.proofs.rows.run_head.Goals as goal

pub returns : goal.returns
unfolding run_head
returns c = (cc, omega arith)
