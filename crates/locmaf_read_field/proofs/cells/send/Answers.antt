-- `locmaf_read_field::cells::send` meets its contract, by the laws of `proofs/TakeLaws.antt`.
use native.Mathlib.Omega.{arith}
use Rattle.wire.specs.Form.{rows}
use Rattle.locmaf_read_field.proofs.TakeLaws.{olds-room, send-value, send-values}
use Rattle.locmaf_read_field.proofs.cells.send.Goals as goal

pub shape_of-x-then-l-eq1 : goal.shape_of-x-then-l-eq1
shape_of-x-then-l-eq1 c = c.send_one.ensures.long

pub returns-then-l-eq1 : goal.returns-then-l-eq1
returns-then-l-eq1 c =
    let a = c.args in
    send-value (rows a.form) a.o.now a.span a.t a.coding a.l a.m a.stood a.r.now a.was c.coding_of-c.ensures
    c.absent_value-base.ensures c.if-l-eq1.true (c.requires.region_fits.single c.if-l-eq1.true) c.requires.region_fits.there _
    c.old_value.ensures c.send_one.ensures

pub send_list-requires : goal.send_list-requires
send_list-requires c =
    let p = c.requires in
    record {
      listed = p.spans c.if-l-eq1.false;
      olds = omega (arith, olds-room _ _ _ _ c.old_length-u.ensures p.region_fits.kept, p.region_fits.there);
      room = omega (arith, c.length_of-k.ensures, p.region_fits.room, p.region_fits.here);
    }

pub shape_of-x : goal.shape_of-x
shape_of-x c = c.send_list.ensures.long

pub returns : goal.returns
returns c =
    let a = c.args in
    send-values (rows a.form) a.o.now a.span a.t a.coding a.l a.m a.stood a.r.now a.was c.coding_of-c.ensures
    c.absent_value-base.ensures c.if-l-eq1.false _ _ c.length_of-k.ensures c.old_length-u.ensures c.send_list.ensures
