-- `counters::follow::all_follow` meets its contract, by what is left to be compared from the loop's sample on.
use Prim.Native.Nat.{ℕ, ◌-◌}
use Rattle.iv_counter.specs.Counter.{Counts}
use Rattle.counters.proofs.WalkLaws.{Walked, Place}
use Rattle.counters.proofs.FollowLaws.{Following}
use Rattle.counters.proofs.follow.all_follow.Given as goal

abbrev pub invariant-loop-i : goal.invariant-loop-i
invariant-loop-i l = Walked l.k l.x × Place l.x l.v l.i × ((m : ℕ) → Counts l.k m l.initial.v.c → Following l.t l.k m l.last l.x l.v l.i)
