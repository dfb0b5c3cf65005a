-- `encoder::properties::put_outside` meets its contract: one part after another.
use Rattle.locmaf_write_tuples.proofs.PutLaws.{left-first}
use Rattle.encoder.proofs.BlockLaws.{before-times, before-version, before-brands, before-flags, before-events}
use Rattle.encoder.proofs.properties.put_outside.Goals as goal

pub put_times-u-requires : goal.put_times-u-requires
put_times-u-requires c =
    let h = left-first _ _ _ _ _ _ _ _ (before-times _ _ _ _ _ c.args.k _ _ c.args.out.now _ (c.requires.ws_value, c.requires.room_for)) in
    record { s_len = c.requires.s_len; p_value = h.0; room_for = h.1 }

pub put_version-v-requires : goal.put_version-v-requires
put_version-v-requires c =
    let h = before-version _ _ _ _ _ c.args.k _ _ c.args.out.now _ (c.requires.ws_value, c.requires.room_for) c.put_times-u.ensures in
    let k = left-first _ _ _ _ _ _ _ _ h in
    record { s_len = c.requires.s_len; p_value = k.0; room_for = k.1 }

pub put_brands-w-requires : goal.put_brands-w-requires
put_brands-w-requires c =
    let h = before-brands _ _ _ _ _ c.args.k _ _ c.args.out.now _ (c.requires.ws_value, c.requires.room_for) c.put_times-u.ensures c.put_version-v.ensures in
    record { brand_bytes = c.requires.brand_bytes; room_for = (left-first _ _ _ _ _ _ _ _ h).1 }

pub put_flags-y-requires : goal.put_flags-y-requires
put_flags-y-requires c =
    let h = before-flags _ _ _ _ _ c.args.k _ _ c.args.out.now _ (c.requires.ws_value, c.requires.room_for)
    c.put_times-u.ensures c.put_version-v.ensures c.put_brands-w.ensures in
    let k = left-first _ _ _ _ _ _ _ _ h in
    record { s_len = c.requires.s_len; p_value = k.0; room_for = k.1 }

pub put_events-requires : goal.put_events-requires
put_events-requires c =
    let h = before-events _ _ _ _ _ c.args.k _ _ c.args.out.now _ (c.requires.ws_value, c.requires.room_for)
    c.put_times-u.ensures c.put_version-v.ensures c.put_brands-w.ensures c.put_flags-y.ensures in
    record { recorded = c.requires.recorded; count_value = h.fits; room_for = h.room }

pub returns : goal.returns
returns c =
    let h = before-events _ _ _ _ _ c.args.k _ _ c.args.out.now _ (c.requires.ws_value, c.requires.room_for)
    c.put_times-u.ensures c.put_version-v.ensures c.put_brands-w.ensures c.put_flags-y.ensures in
    h.rest _ _ c.put_events.ensures
