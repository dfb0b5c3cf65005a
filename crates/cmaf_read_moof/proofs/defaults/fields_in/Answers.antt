-- `cmaf_read_moof::defaults::fields_in` meets its contract: it counts the four flags.
use native.Mathlib.Omega.{arith}
use Rattle.cmaf_read_moof.specs.Defaults.{fields_in}
use Rattle.cmaf_read_moof.proofs.defaults.fields_in.Goals as goal

pub returns : goal.returns
unfolding fields_in
returns c = (cc, omega arith)
