-- `printing::hexadecimal::hex` is safe and ends: the index stays below the last place, and comes nearer to it with each turn.
use Rattle.std.proofs.Common.{◌-◌}
use Rattle.printing.proofs.hexadecimal.hex.Given as goal

abbrev pub invariant-loop-i : goal.invariant-loop-i
invariant-loop-i g l = Unit {0}
