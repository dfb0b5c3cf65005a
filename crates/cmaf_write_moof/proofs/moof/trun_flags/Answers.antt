-- `cmaf_write_moof::moof::trun_flags` meets its contract.
use native.Mathlib.Omega.{arith}
use Rattle.field_table.specs.Lines.{lines, line_for}
use Rattle.field_set.specs.Lawful.{has}
use Rattle.cmaf_write_moof.specs.Moof.{trun_flags}
use Rattle.cmaf_write_moof.proofs.moof.trun_flags.Goals as goal

pub returns : goal.returns
unfolding trun_flags has lines line_for
returns c = (omega arith, omega arith)
