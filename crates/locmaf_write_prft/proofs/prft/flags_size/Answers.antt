-- `locmaf_write_prft::prft::flags_size` meets its contract: an id that stands in a `prft` unless it is what its absence means.
use native.Mathlib.Omega.{arith}
use Rattle.locmaf_write_prft.specs.Prft.{flags_items}
use Rattle.locmaf_write_prft.proofs.prft.flags_size.Goals as goal

pub if_absent-usual-requires : goal.if_absent-usual-requires
if_absent-usual-requires c = omega (arith, c.requires)

pub unless_size-requires : goal.unless_size-requires
unless_size-requires c = omega arith

pub returns : goal.returns
unfolding flags_items
returns c = rw c.if_absent-usual.ensures at c.unless_size.ensures
