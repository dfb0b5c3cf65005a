-- `cmaf_read_prelude::emsg::zero_from` meets its contract, by what is left to look at.
use Prim.Native.Nat.{◌-◌, ◌≤◌}
use mathlib.Core.Path.{◌≡◌}
use lib.ListN.{length}
use Rattle.cmaf_read_prelude.specs.Emsg.{zero_from}
use Rattle.cmaf_read_prelude.proofs.emsg.zero_from.Given as goal

abbrev pub invariant-loop-i : goal.invariant-loop-i
invariant-loop-i l = (l.to ≤ length l.c) × (zero_from l.c l.i l.to ≡ zero_from l.c l.from l.to)

abbrev pub decreases-loop-i : goal.decreases-loop-i
decreases-loop-i l = l.to - l.i
