-- `cmaf_read_tree::numbers::u64_at` meets its contract, by what is spelt so far.
use Rattle.cmaf_read_tree.proofs.NumberLaws.{Spelling}
use Rattle.cmaf_read_tree.proofs.numbers.u64_at.Given as goal

abbrev pub invariant-loop-i : goal.invariant-loop-i
invariant-loop-i l = Spelling l.b l.at l.v l.i
