-- `told_sizes::sums::add_up` meets its contract, by what is left to add from the loop's place on.
use Rattle.told_sizes.proofs.SumLaws.{Adding}
use Rattle.told_sizes.proofs.sums.add_up.Given as goal

abbrev pub invariant-loop-i : goal.invariant-loop-i
invariant-loop-i l = Adding l.w l.from l.to l.sum l.i
