-- `cmaf_read_rules::all::clocks_ok` meets its contract, by the row of tests that is left.
use mathlib.Core.List.{[]}
use Rattle.laws.proofs.RowLaws.{Tested}
use Rattle.event_value.specs.Events.{events_from}
use Rattle.cmaf_read_rules.specs.Rules.{clocks_ok}
use Rattle.cmaf_read_rules.proofs.all.clocks_ok.Given as goal

abbrev pub invariant-loop-i : goal.invariant-loop-i
invariant-loop-i l = Tested (λ n j. clocks_ok (events_from [] l.events n j)) l.k l.ok l.i
