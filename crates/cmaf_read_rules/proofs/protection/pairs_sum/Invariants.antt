-- `cmaf_read_rules::protection::pairs_sum` meets its contract: what is summed, with the subsamples that are left.
use Prim.Native.Nat.{◌-◌}
use Rattle.cmaf_read_rules.proofs.PairLaws.{Adding}
use Rattle.cmaf_read_rules.proofs.protection.pairs_sum.Given as goal

abbrev pub invariant-loop-p : goal.invariant-loop-p
invariant-loop-p l = Adding l.c l.at l.k l.sum l.p

abbrev pub decreases-loop-p : goal.decreases-loop-p
decreases-loop-p l = l.end - l.p
