-- `printing::values::blanks` is safe and ends: the place comes nearer with each blank.
use Rattle.std.proofs.Common.{◌-◌}
use Rattle.printing.proofs.values.blanks.Given as goal

abbrev pub invariant-loop-i : goal.invariant-loop-i
invariant-loop-i g l = Unit {0}
