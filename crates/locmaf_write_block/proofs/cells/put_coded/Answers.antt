-- `locmaf_write_block::cells::put_coded` meets its contract: one number, or a list.
use Rattle.wire.specs.Form.{rows}
use Rattle.locmaf_write_tuples.proofs.PutLaws.{put-needs, put-known, put_as}
use Rattle.locmaf_write_block.proofs.FieldLaws.{line-single}
use Rattle.locmaf_write_block.proofs.SentLaws.{one-coded, list-coded}
use Rattle.locmaf_write_block.proofs.cells.put_coded.Goals as goal

pub number_of-z-requires : goal.number_of-z-requires
number_of-z-requires c =
    let h = line-single c.args.x.now c.requires.chunk_line c.requires.measured c.requires.k_in_bounds.1 c.if-l-eq1.true in
    record { place_in_bounds = h.0; place_in_bounds_2 = h.1.0; want_value = h.1.1 }

pub put_number-requires : goal.put_number-requires
put_number-requires c =
    let a = c.args in
    let F = rows a.form in
    let e = one-coded F a.c a.b a.r.now a.x.now a.l a.k a.base c.if-l-eq1.true _ c.number_of-z.ensures in
    let h = put-needs F e _ _ c.requires.base_value c.requires.room_for in
    record { c_value = h.0; room_for = h.1 }

pub returns-then-l-eq1 : goal.returns-then-l-eq1
returns-then-l-eq1 c =
    let a = c.args in
    let F = rows a.form in
    put_as F (one-coded F a.c a.b a.r.now a.x.now a.l a.k a.base c.if-l-eq1.true _ c.number_of-z.ensures)
    c.put_number.ensures

pub put_list-requires : goal.put_list-requires
put_list-requires c =
    let a = c.args in
    let n = c.requires in
    let F = rows a.form in
    let e = list-coded F a.c a.b a.r.now a.x.now a.l a.k a.base c.if-l-eq1.false in
    let h = put-known F e _ _ _ n.base_value n.bytes_value n.room_for in
    record {
      chunk_line = n.chunk_line;
      measured = n.measured;
      k_in_bounds = n.k_in_bounds;
      k_le_subsamples_most = n.k_le_subsamples_most;
      base_value = h.0;
      bytes_value = h.1.0;
      room_for = h.1.1;
    }

pub returns : goal.returns
returns c =
    let a = c.args in
    let F = rows a.form in
    put_as F (list-coded F a.c a.b a.r.now a.x.now a.l a.k a.base c.if-l-eq1.false) c.put_list.ensures
