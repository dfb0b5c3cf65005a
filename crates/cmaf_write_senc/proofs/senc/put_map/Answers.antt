-- `cmaf_write_senc::senc::put_map` meets its contract: nothing where the set has no subsamples, else the count and the subsamples.
use native.Mathlib.Omega.{arith}
use Rattle.laws.specs.Bytes.{be}
use Rattle.laws.proofs.WriteLaws.{then, wrote_none, wrote-length}
use Rattle.field_table.specs.Lines.{lines, line_for}
use Rattle.field_set.proofs.ValueLaws.{has_no, has-yes}
use Rattle.cmaf_write_senc.proofs.SencLaws.{map-room, subsamples-length}
use Rattle.cmaf_write_senc.proofs.senc.put_map.Goals as goal

pub returns-then-w-eq0 : goal.returns-then-w-eq0
unfolding line_for lines
returns-then-w-eq0 c = rw (has_no 11 c.args.w.now c.if-w-eq0.true) (wrote_none _ _ (omega arith))

pub put_u16-a-requires : goal.put_u16-a-requires
unfolding line_for lines
put_u16-a-requires c =
    let a = c.args in
    omega (arith, c.requires.i_in_bounds, map-room a.w.now a.k a.i (has-yes 11 a.w.now c.if-w-eq0.false))

pub put_subsamples-requires : goal.put_subsamples-requires
unfolding be line_for lines
put_subsamples-requires c =
    let a = c.args in
    let w = c.put_u16-a.ensures in record {
      w_len = c.requires.w_len;
      i_in_bounds = omega
          (arith, c.requires.i_in_bounds, map-room a.w.now a.k a.i (has-yes 11 a.w.now c.if-w-eq0.false), subsamples-length a.w.now a.k a.i, wrote-length w, w.place);
    }

pub returns : goal.returns
unfolding line_for lines
returns c = rw (has-yes 11 c.args.w.now c.if-w-eq0.false) (then c.put_u16-a.ensures c.put_subsamples.ensures)
