-- `locmaf_write_tuples::tuples::put_head` meets its contract: two varints one after another.
use mathlib.Core.Path.{refl}
use mathlib.Core.List.{[], ◌∷◌}
use Rattle.laws.proofs.PartLaws.{parts_all, parts-room, parts_then, parts_none}
use Rattle.wire.specs.Form.{rows}
use Rattle.wire.specs.Varint.{encode}
use Rattle.locmaf_write_tuples.proofs.tuples.put_head.Goals as goal

pub put-a-requires : goal.put-a-requires
put-a-requires c =
    let a = c.args in
    let F = rows a.form in
    parts-room (parts_all a.out.now a.at (encode F a.id ∷ encode F a.n ∷ []) refl c.requires)

pub put-requires : goal.put-requires
put-requires c =
    let a = c.args in
    let F = rows a.form in
    parts-room (parts_then (parts_all a.out.now a.at (encode F a.id ∷ encode F a.n ∷ []) refl c.requires) c.put-a.ensures)

pub returns : goal.returns
returns c =
    let a = c.args in
    let F = rows a.form in
    parts_none
    (parts_then
    (parts_then (parts_all a.out.now a.at (encode F a.id ∷ encode F a.n ∷ []) refl c.requires) c.put-a.ensures)
    c.put.ensures)
