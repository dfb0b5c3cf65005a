-- `cmaf_read_set::set::put_low` meets its contract, field by field.
use native.Mathlib.Omega.{arith}
use mathlib.Core.Path.{◌∙◌}
use Rattle.cmaf_read_trun.proofs.RowLaws.{durations-column}
use Rattle.cmaf_read_set.proofs.StoredLaws.{low_read}
use Rattle.cmaf_read_set.proofs.set.put_low.Goals as goal

pub put_sizes-requires : goal.put_sizes-requires
put_sizes-requires c = record { sized = c.requires.sized; x_len = c.requires.x_len }

pub put_column-requires : goal.put_column-requires
put_column-requires c =
    let l = c.put_one.auto.x ∙ c.put_sizes.auto.x ∙ c.requires.x_len in
    record { few_rows = (c.requires.sized.0, c.requires.sized.1); column_value = durations-column; samples_most_in_bounds = omega (arith, l) }

pub put_one-requires-2 : goal.put_one-requires-2
put_one-requires-2 c =
    let l = c.put_column.auto.x ∙ c.put_one.auto.x ∙ c.put_sizes.auto.x ∙ c.requires.x_len in
    omega (arith, l)

pub returns : goal.returns
returns c =
    let a = c.args in
    low_read a.t a.c.now a.d a.r a.equal a.x.now
    c.put_sizes.ensures c.put_one.ensures
    c.put_column.ensures c.put_one-2.ensures
