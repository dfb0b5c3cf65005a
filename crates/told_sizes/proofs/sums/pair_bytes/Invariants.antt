-- `told_sizes::sums::pair_bytes` meets its contract, by the pairs that are left to add.
use Rattle.told_sizes.proofs.SumLaws.{Pairing}
use Rattle.told_sizes.proofs.sums.pair_bytes.Given as goal

abbrev pub invariant-loop-i : goal.invariant-loop-i
invariant-loop-i l = Pairing l.w l.a l.b l.k l.sum l.i
