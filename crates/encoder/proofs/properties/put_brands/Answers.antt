-- `encoder::properties::put_brands` meets its contract: nothing, or a head, the major brand and the compatible ones.
use Rattle.laws.proofs.PartLaws.{parts_all, parts-room, parts_then, parts_none}
use Rattle.wire.specs.Form.{rows}
use Rattle.encoder.proofs.BrandLaws.{brands-none, brands-long, brand_parts, names-length, brand-parts}
use borrow.Author.Rules.{rules}
use Rattle.locmaf_write_tuples.proofs.PutLaws.{put-none}
use Rattle.encoder.proofs.properties.put_brands.Goals as goal

pub returns-then-delta-n : goal.returns-then-delta-n
returns-then-delta-n c =
    let n = names-length c.args.c.now c.args.body c.requires.brand_bytes.0 c.requires.brand_bytes.1 in
    put-none _ _ _ (brands-none c.args.form c.requires.brand_bytes.0 _ n _ c.if-delta-n.true) c.requires.room_for

pub overflow_sub-n : goal.overflow_sub-n
overflow_sub-n c =
    let long = brands-long c.requires.brand_bytes.0 c.args.delta c.if-delta-n.false in
    search rules

pub put_head-a-requires : goal.put_head-a-requires
put_head-a-requires c =
    let a = c.args in
    let n = c.requires in
    let begun =
    parts_all a.out.now a.at (brand_parts (rows a.form) a.c.now a.body.at a.body.len)
    (brand-parts a.c.now a.body n.brand_bytes.0 n.brand_bytes.1 a.form a.delta c.if-delta-n.false) n.room_for in
    parts-room begun

pub overflow_add-from : goal.overflow_add-from
overflow_add-from c =
    let long = brands-long c.requires.brand_bytes.0 c.args.delta c.if-delta-n.false in
    search rules

pub slice_bounds-put_bytes-end : goal.slice_bounds-put_bytes-end
slice_bounds-put_bytes-end c =
    let long = brands-long c.requires.brand_bytes.0 c.args.delta c.if-delta-n.false in
    search rules

pub put_bytes-b-requires : goal.put_bytes-b-requires
put_bytes-b-requires c =
    let a = c.args in
    let n = c.requires in
    let begun =
    parts_all a.out.now a.at (brand_parts (rows a.form) a.c.now a.body.at a.body.len)
    (brand-parts a.c.now a.body n.brand_bytes.0 n.brand_bytes.1 a.form a.delta c.if-delta-n.false) n.room_for in
    parts-room (parts_then begun c.put_head-a.ensures)

pub overflow_add-from-2 : goal.overflow_add-from-2
overflow_add-from-2 c =
    let long = brands-long c.requires.brand_bytes.0 c.args.delta c.if-delta-n.false in
    search rules

pub overflow_add-from-3 : goal.overflow_add-from-3
overflow_add-from-3 c =
    let long = brands-long c.requires.brand_bytes.0 c.args.delta c.if-delta-n.false in
    search rules

pub slice_bounds-put_bytes-count-2 : goal.slice_bounds-put_bytes-count-2
slice_bounds-put_bytes-count-2 c =
    let long = brands-long c.requires.brand_bytes.0 c.args.delta c.if-delta-n.false in
    search rules

pub slice_bounds-put_bytes-start-2 : goal.slice_bounds-put_bytes-start-2
slice_bounds-put_bytes-start-2 c =
    let long = brands-long c.requires.brand_bytes.0 c.args.delta c.if-delta-n.false in
    search rules

pub slice_bounds-put_bytes-end-2 : goal.slice_bounds-put_bytes-end-2
slice_bounds-put_bytes-end-2 c =
    let long = brands-long c.requires.brand_bytes.0 c.args.delta c.if-delta-n.false in
    search rules

pub put_bytes-requires : goal.put_bytes-requires
put_bytes-requires c =
    let a = c.args in
    let n = c.requires in
    let begun =
    parts_all a.out.now a.at (brand_parts (rows a.form) a.c.now a.body.at a.body.len)
    (brand-parts a.c.now a.body n.brand_bytes.0 n.brand_bytes.1 a.form a.delta c.if-delta-n.false) n.room_for in
    parts-room (parts_then (parts_then begun c.put_head-a.ensures) c.put_bytes-b.ensures)

pub returns : goal.returns
returns c =
    let a = c.args in
    let n = c.requires in
    let begun =
    parts_all a.out.now a.at (brand_parts (rows a.form) a.c.now a.body.at a.body.len)
    (brand-parts a.c.now a.body n.brand_bytes.0 n.brand_bytes.1 a.form a.delta c.if-delta-n.false) n.room_for in
    parts_none
    (parts_then (parts_then (parts_then begun c.put_head-a.ensures) c.put_bytes-b.ensures) c.put_bytes.ensures)
