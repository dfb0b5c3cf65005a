-- `counters::follow::put_all` meets its contract, by what is left to be put from the loop's sample on.
use Prim.Native.Nat.{ℕ, ◌-◌}
use mathlib.Core.Path.{◌≡◌}
use mathlib.Core.Bool.{true}
use Rattle.iv_counter.specs.Counter.{Counts}
use Rattle.counters.proofs.WalkLaws.{Walked, Place}
use Rattle.counters.proofs.DeriveLaws.{Put, Deriving}
use Rattle.counters.proofs.follow.put_all.Given as goal

abbrev pub invariant-loop-i : goal.invariant-loop-i
invariant-loop-i l = Walked l.k l.initial.x × Place l.initial.x l.v l.i × Put l.k l.initial.x l.x l.i × ((m : ℕ) → Counts l.k m l.initial.v.c → l.initial.v.c.ok ≡ true → Deriving l.t l.k m l.last l.initial.x l.x l.v l.i)
