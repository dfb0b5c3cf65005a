-- `cmaf_write_moof::moof::tfhd_flags` meets its contract.
use native.Mathlib.Omega.{arith}
use Rattle.field_table.specs.Lines.{lines, line_for}
use Rattle.field_set.specs.Lawful.{has}
use Rattle.cmaf_write_moof.specs.Moof.{tfhd_flags}
use Rattle.cmaf_write_moof.proofs.moof.tfhd_flags.Goals as goal

pub returns : goal.returns
unfolding tfhd_flags has lines line_for
returns c = omega arith
