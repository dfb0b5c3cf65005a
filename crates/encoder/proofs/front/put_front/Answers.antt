-- `encoder::front::put_front` meets its contract: a header, the length of the block, and the block.
use native.Mathlib.Omega.{arith}
use Rattle.laws.proofs.PartLaws.{parts_all, parts-room, parts_then, parts_none}
use Rattle.wire.specs.Form.{rows}
use Rattle.encoder.proofs.FrontLaws.{front_parts, front-parts}
use Rattle.encoder.proofs.front.put_front.Goals as goal

pub put-h-requires : goal.put-h-requires
put-h-requires c =
    let a = c.args in
    let h = c.header_of.result in
    let begun =
    parts_all a.out.now 0 (front_parts (rows a.form) a.s.now a.c.now a.a h)
    (front-parts c.requires.sendable h c.header_of.ensures) (omega (arith, c.requires.delta_in_bounds)) in
    parts-room begun

pub put-p-requires : goal.put-p-requires
put-p-requires c =
    let a = c.args in
    let h = c.header_of.result in
    let begun =
    parts_all a.out.now 0 (front_parts (rows a.form) a.s.now a.c.now a.a h)
    (front-parts c.requires.sendable h c.header_of.ensures) (omega (arith, c.requires.delta_in_bounds)) in
    parts-room (parts_then begun c.put-h.ensures)

pub put_block-requires : goal.put_block-requires
put_block-requires c =
    let a = c.args in
    let h = c.header_of.result in
    let begun =
    parts_all a.out.now 0 (front_parts (rows a.form) a.s.now a.c.now a.a h)
    (front-parts c.requires.sendable h c.header_of.ensures) (omega (arith, c.requires.delta_in_bounds)) in
    let p = c.requires.sendable in
    record {
      encodable = c.requires.encodable;
      held = (p.held, c.requires.leaves);
      kept = c.requires.kept;
      delta_value = p.all-fit;
      room_for = parts-room (parts_then (parts_then begun c.put-h.ensures) c.put-p.ensures);
    }

pub returns : goal.returns
returns c =
    let a = c.args in
    let h = c.header_of.result in
    let begun =
    parts_all a.out.now 0 (front_parts (rows a.form) a.s.now a.c.now a.a h)
    (front-parts c.requires.sendable h c.header_of.ensures) (omega (arith, c.requires.delta_in_bounds)) in
    parts_none (parts_then (parts_then (parts_then begun c.put-h.ensures) c.put-p.ensures) c.put_block.ensures)
