-- `cmaf_read_rules::protection::entry_ok` meets its contract: with subsamples and without.
use borrow.Author.Tests.{not-true, not-false}
use borrow.Author.Rules.{rules}
use Rattle.cmaf_read_rules.proofs.EntryRules.{entry-plain, entry-sum, entry-room}
use Rattle.cmaf_read_rules.proofs.protection.entry_ok.Goals as goal

pub returns-then-not-e : goal.returns-then-not-e
returns-then-not-e c =
    let a = c.args in
    entry-plain a.c.now a.e a.at a.size (not-true _ c.if-not-e.true)

pub overflow_add-at : goal.overflow_add-at
overflow_add-at c =
    let a = c.args in
    let z = entry-room a.c.now a.e a.at a.size (not-false _ c.if-not-e.false) a.k c.requires.k_value.0 c.requires.at_in_bounds in
    search rules

pub overflow_add-at-2 : goal.overflow_add-at-2
overflow_add-at-2 c =
    let a = c.args in
    let z = entry-room a.c.now a.e a.at a.size (not-false _ c.if-not-e.false) a.k c.requires.k_value.0 c.requires.at_in_bounds in
    search rules

pub pairs_sum-requires : goal.pairs_sum-requires
pairs_sum-requires c =
    let a = c.args in
    (entry-room a.c.now a.e a.at a.size (not-false _ c.if-not-e.false) a.k c.requires.k_value.0 c.requires.at_in_bounds, c.requires.k_value.1)

pub returns : goal.returns
returns c =
    let a = c.args in
    entry-sum a.c.now a.e a.at a.size (not-false _ c.if-not-e.false) a.k c.requires.k_value.0 _ c.pairs_sum.ensures
