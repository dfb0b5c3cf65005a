-- `locmaf_write_tuples::tuples::both` meets its contract: by the cases of the two weights.
use Rattle.locmaf_write_tuples.specs.Items.{sum_of}
use Rattle.locmaf_write_tuples.proofs.ItemLaws.{sum-none}
use Rattle.locmaf_write_tuples.proofs.tuples.both.Goals as goal

pub returns-in_err-a : goal.returns-in_err-a
unfolding sum_of
returns-in_err-a c = rw c.in_err-a.was c.from_residual.ensures

pub returns-in_err-b : goal.returns-in_err-b
returns-in_err-b c = rw (c.in_err-b.was, sum-none c.args.a) c.from_residual-in_err-b.ensures

pub returns : goal.returns
unfolding sum_of
returns c = rw (c.in_ok-a.was, c.in_ok-b.was)
