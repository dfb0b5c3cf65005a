-- `cmaf_write_moof::moof::plain_length` meets its contract.
use native.Mathlib.Omega.{arith}
use Rattle.cmaf_write_moof.specs.Lengths.{plain_length}
use Rattle.cmaf_write_moof.proofs.moof.plain_length.Goals as goal

pub returns : goal.returns
unfolding plain_length
returns c = (omega arith, omega arith)
