-- `cmaf_read_set::set::put_high` meets its contract, field by field.
use native.Mathlib.Omega.{arith}
use mathlib.Core.Path.{◌∙◌}
use Rattle.cmaf_read_trun.proofs.RowLaws.{offsets-column, flags-column}
use Rattle.cmaf_read_set.proofs.StoredLaws.{high_read}
use Rattle.cmaf_read_set.proofs.set.put_high.Goals as goal

pub overflow_cast-d : goal.overflow_cast-d
overflow_cast-d c = omega (arith, c.requires.sized.1)

pub put_column-requires : goal.put_column-requires
put_column-requires c =
    let w = c.requires.sized.0 in
    record { few_rows = (w.0, w.1); column_value = offsets-column; samples_most_in_bounds = omega (arith, c.requires.x_len) }

pub put_size-requires : goal.put_size-requires
put_size-requires c = record { sized = c.requires.sized.0; x_len = c.put_column.auto.x ∙ c.requires.x_len }

pub put_column-requires-2 : goal.put_column-requires-2
put_column-requires-2 c =
    let w = c.requires.sized.0 in
    let l = c.put_size.auto.x ∙ c.put_column.auto.x ∙ c.requires.x_len in
    record { few_rows = (w.0, w.1); column_value = flags-column; samples_most_in_bounds = omega (arith, l) }

pub returns : goal.returns
returns c =
    let a = c.args in
    high_read a.t a.c.now a.d a.r a.equal a.x.now _
    c.five-five.ensures c.put_column.ensures
    c.put_size.ensures c.put_column-2.ensures
    c.put_one.ensures
