-- `cmaf_write_moof::moof::row_length` meets its contract.
use native.Mathlib.Omega.{arith}
use Rattle.field_table.specs.Lines.{lines, line_for}
use Rattle.field_set.specs.Lawful.{has}
use Rattle.cmaf_write_moof.specs.Lengths.{row_length}
use Rattle.cmaf_write_moof.proofs.moof.row_length.Goals as goal

pub returns : goal.returns
unfolding row_length has lines line_for
returns c = (omega arith, omega arith)
