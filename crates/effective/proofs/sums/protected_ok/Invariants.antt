-- `effective::sums::protected_ok` meets its contract, by what is left to look at from the loop's sample on.
use Prim.Native.Nat.{◌-◌}
use Rattle.effective.proofs.SumLaws.{Matching}
use Rattle.effective.proofs.sums.protected_ok.Given as goal

abbrev pub invariant-loop-i : goal.invariant-loop-i
invariant-loop-i l = Matching l.w l.n l.last l.ok l.j l.i
