-- `locmaf_write_block::cells::put_ivs` meets its contract: its parts one after another.
use mathlib.Core.Path.{refl}
use mathlib.Core.List.{[], ◌∷◌, ◌++◌}
use Prim.Native.Nat.{◌*◌}
use lib.ListN.{length}
use Rattle.wire.specs.Form.{rows}
use Rattle.wire.specs.Varint.{encode}
use Rattle.locmaf_write_tuples.specs.Items.{wide_bytes}
use Rattle.laws.proofs.PartLaws.{parts_all, parts-room, parts_then, parts_none}
use Rattle.locmaf_write_block.proofs.WideLaws.{wide_room}
use Rattle.locmaf_write_block.proofs.cells.put_ivs.Goals as goal

pub put_head-p-requires : goal.put_head-p-requires
put_head-p-requires c =
    let a = c.args in
    let ws = a.ws.now in
    let head = encode (rows a.form) a.id ++ encode (rows a.form) (8 * length ws) in
    let begun = parts_all a.out.now a.at (head ∷ wide_bytes ws ∷ []) refl c.requires.ws_in_bounds in
    parts-room begun

pub put_wide-requires : goal.put_wide-requires
put_wide-requires c =
    let a = c.args in
    let ws = a.ws.now in
    let head = encode (rows a.form) a.id ++ encode (rows a.form) (8 * length ws) in
    let begun = parts_all a.out.now a.at (head ∷ wide_bytes ws ∷ []) refl c.requires.ws_in_bounds in
    wide_room _ (parts_then begun c.put_head-p.ensures)

pub returns : goal.returns
returns c =
    let a = c.args in
    let ws = a.ws.now in
    let head = encode (rows a.form) a.id ++ encode (rows a.form) (8 * length ws) in
    let begun = parts_all a.out.now a.at (head ∷ wide_bytes ws ∷ []) refl c.requires.ws_in_bounds in
    parts_none (parts_then (parts_then begun c.put_head-p.ensures) c.put_wide.ensures)
