-- `commands::checksum::checksum` meets its contract, by what is left to add from the loop's place on.
use Prim.Native.Nat.{◌-◌}
use Rattle.commands.proofs.ChecksumLaws.{Summing}
use Rattle.commands.proofs.checksum.checksum.Given as goal

abbrev pub invariant-loop-i : goal.invariant-loop-i
invariant-loop-i l = Summing l.s l.n l.h l.i
