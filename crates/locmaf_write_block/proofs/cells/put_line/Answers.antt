-- `locmaf_write_block::cells::put_line` meets its contract: a field without bytes has none to write, and one with some is sent.
use Rattle.wire.specs.Form.{rows}
use Rattle.locmaf_write_tuples.proofs.PutLaws.{put-known, put_as, put-empty}
use Rattle.locmaf_write_block.proofs.ChangeLaws.{bytes-stand, bytes-sent}
use Rattle.locmaf_write_block.proofs.cells.put_line.Goals as goal

pub returns-then-bytes-eq0 : goal.returns-then-bytes-eq0
returns-then-bytes-eq0 c = put-empty _ _ _ c.if-bytes-eq0.true c.requires.bytes_value c.requires.room_for

pub put_sent-requires : goal.put_sent-requires
put_sent-requires c =
    let a = c.args in
    let n = c.requires in
    let F = rows a.form in
    let some = c.if-bytes-eq0.false in
    let l = c.line_at.ensures in
    let e = bytes-sent F a.t a.b.delta a.b.follow a.r.now a.x.now _ _ l _ n.bytes_value some in
    let h = put-known F e _ _ _ n.i_value n.bytes_value n.room_for in
    record {
      based = n.based;
      chunk_line = record { number = a.i; below = n.i_lt_chunk_lines; found = l };
      l_value = bytes-stand F a.t a.b.delta a.b.follow a.r.now a.x.now _ _ l _ n.bytes_value some;
      form_value = h.0;
      bytes_value = h.1.0;
      room_for = h.1.1;
    }

pub returns : goal.returns
returns c =
    let a = c.args in
    let F = rows a.form in
    put_as F (bytes-sent F a.t a.b.delta a.b.follow a.r.now a.x.now _ _ c.line_at.ensures _ c.requires.bytes_value c.if-bytes-eq0.false) c.put_sent.ensures
