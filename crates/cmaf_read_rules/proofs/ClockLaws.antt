-- The timescales of events, one event after another. Assumes nothing.
use Prim.Native.Nat.{ℕ, zero, suc, ◌+◌, ◌*◌}
use mathlib.Core.Path.{◌≡◌, refl, ap}
use mathlib.Core.Bool.{Bool, not}
use mathlib.Core.List.{List}
use lib.Dec.{eqb}
use lib.ListN.{get_or}
use Rattle.laws.specs.Tests.{◌and◌}
use Rattle.laws.proofs.RowLaws.{Row}
use Rattle.event_value.specs.Events.{event_at, events_from}
use Rattle.event_value.specs.Events.{event_words, event_timescale}
use Rattle.cmaf_read_rules.specs.Rules.{clocks_ok}

-- each event's timescale is the fifth of its ten words
pub clocks-row : (o ws : List ℕ) → Row (λ i. not (eqb (get_or ws (event_words * i + event_timescale) 0) 0)) (λ k i. clocks_ok (events_from o ws k i))
unfolding clocks_ok events_from event_at
clocks-row o ws = record { none = λ i. refl; more = λ k i. refl }

-- and doesn't depend on where their texts are
pub clocks-any : (o p ws : List ℕ) (k i : ℕ) → clocks_ok (events_from o ws k i) ≡ clocks_ok (events_from p ws k i)
unfolding clocks_ok events_from event_at
clocks-any o p ws zero i = refl
clocks-any o p ws (suc k) i = ap (λ (b : Bool). not (eqb (get_or ws (event_words * i + event_timescale) 0) 0) and b) (clocks-any o p ws k (suc i))
