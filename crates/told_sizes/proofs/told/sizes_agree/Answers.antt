-- `told_sizes::told::sizes_agree` meets its contract, with subsamples and without.
use Rattle.field_table.specs.Lines.{lines, line_for}
use Rattle.field_set.proofs.ValueLaws.{has_no, has-yes}
use Rattle.told_sizes.proofs.ToldLaws.{sums-paired, sums-told}
use Rattle.told_sizes.proofs.told.sizes_agree.Goals as goal

pub pairs_ok-requires : goal.pairs_ok-requires
unfolding lines line_for
pairs_ok-requires c = record { summable = c.requires; w_value = has-yes 11 _ c.if-w-ne0.true }

pub returns-then-w-ne0 : goal.returns-then-w-ne0
unfolding lines line_for
returns-then-w-ne0 c = sums-paired _ _ (has-yes 11 _ c.if-w-ne0.true) _ c.pairs_ok.ensures

pub returns : goal.returns
unfolding lines line_for
returns c = sums-told _ _ (has_no 11 _ c.if-w-ne0.false) _ c.told_sum.ensures
