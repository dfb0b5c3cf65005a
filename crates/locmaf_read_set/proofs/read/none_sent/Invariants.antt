-- `locmaf_read_set::read::none_sent` meets its contract, by the words of the index that are left to collect.
use lib.ListN.{get_or}
use Rattle.field_table.specs.declared.lines.Line.{Line}
use Rattle.field_table.proofs.NoneLaws.{Gathering}
use Rattle.locmaf_read_index.specs.Places.{stands_at}
use Rattle.locmaf_read_set.proofs.read.none_sent.Given as goal

abbrev pub invariant-loop-i : goal.invariant-loop-i
invariant-loop-i live = Gathering (λ (l : Line). get_or live.index (stands_at l.id) 0) live.all live.i
