-- `field_set::lawful::tallied` meets its contract, by what is left to tally from the loop's place on.
use Prim.Native.Nat.{◌-◌}
use Rattle.field_set.proofs.TallyLaws.{Tallying}
use Rattle.field_set.proofs.lawful.tallied.Given as goal

abbrev pub invariant-loop-i : goal.invariant-loop-i
invariant-loop-i l = Tallying l.w l.from l.to l.most l.ok l.sum l.i
