-- `told_sizes::told::pairs_ok` meets its contract, by what is left to look at from the loop's sample on.
use Rattle.told_sizes.proofs.ToldLaws.{Agreeing}
use Rattle.told_sizes.proofs.told.pairs_ok.Given as goal

abbrev pub invariant-loop-i : goal.invariant-loop-i
invariant-loop-i l = Agreeing l.t l.w l.n l.ok l.all l.j l.i
