-- `cmaf_read_rules::protection::entries_ok` meets its contract: at each place, the test so far and the entries that are left.
use Rattle.cmaf_read_rules.proofs.EntryRules.{Checking}
use Rattle.cmaf_read_rules.proofs.protection.entries_ok.Given as goal

abbrev pub invariant-loop-i : goal.invariant-loop-i
invariant-loop-i l = Checking l.c l.e l.saiz l.r l.default l.n l.ok l.p l.i
