-- `locmaf_write_block::cells::put_list` meets its contract: the numbers are those that are lent.
use native.Mathlib.Omega.{arith}
use Rattle.wire.specs.Form.{rows}
use Rattle.locmaf_write_tuples.proofs.PutLaws.{put-known, put_as}
use Rattle.locmaf_write_block.proofs.FieldLaws.{line_low}
use Rattle.locmaf_write_block.proofs.SentLaws.{lent_length, lent-list}
use Rattle.locmaf_write_block.proofs.cells.put_list.Goals as goal

pub put_run-requires : goal.put_run-requires
put_run-requires c =
    let a = c.args in
    let n = c.requires in
    let F = rows a.form in
    let e = lent-list F a.c a.b a.r.now a.x.now a.l a.k a.base _ n.k_in_bounds.0 c.old_length-u.ensures in
    let h = put-known F e _ _ _ n.base_value n.bytes_value n.room_for in
    record {
      id_lt_id_count = (line_low n.chunk_line, omega (arith, lent_length a.l a.x.now a.k n.k_in_bounds.0, n.k_le_subsamples_most));
      value = h.0;
      bytes_value = h.1.0;
      room_for = h.1.1;
    }

pub returns : goal.returns
returns c =
    let a = c.args in
    let F = rows a.form in
    put_as F
    (lent-list F a.c a.b a.r.now a.x.now a.l a.k a.base _ c.requires.k_in_bounds.0 c.old_length-u.ensures)
    c.put_run.ensures
