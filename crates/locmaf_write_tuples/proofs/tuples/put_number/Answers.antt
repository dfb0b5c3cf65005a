-- `locmaf_write_tuples::tuples::put_number` meets its contract.
use mathlib.Core.List.{[], ◌∷◌}
use Rattle.laws.proofs.PartLaws.{parts_all, parts-room, parts_then, parts_none}
use Rattle.wire.specs.Form.{rows}
use Rattle.wire.specs.Varint.{encode}
use Rattle.locmaf_write_tuples.proofs.TupleLaws.{wrote-out, number-some, number-bytes}
use mathlib.Core.Path.{ap}
use mathlib.Core.Bool.{not}
use Rattle.locmaf_write_tuples.proofs.tuples.put_number.Goals as goal

pub returns-then-not-stands : goal.returns-then-not-stands
returns-then-not-stands c = wrote-out _ _ _ _ _ (ap not c.if-not-stands.true) c.requires.room_for

pub unwrap-z-requires : goal.unwrap-z-requires
unwrap-z-requires c = number-some c.args.id c.args.c c.args.stands (ap not c.if-not-stands.false) c.requires.c_value

pub put-a-requires : goal.put-a-requires
put-a-requires c =
    let a = c.args in
    let F = rows a.form in
    let whole = number-bytes a.id a.c _ c.unwrap-z.ensures F a.stands (ap not c.if-not-stands.false) in
    parts-room (parts_all a.out.now a.at (encode F a.id ∷ encode F c.unwrap-z.result ∷ []) whole c.requires.room_for)

pub put-requires : goal.put-requires
put-requires c =
    let a = c.args in
    let F = rows a.form in
    let whole = number-bytes a.id a.c _ c.unwrap-z.ensures F a.stands (ap not c.if-not-stands.false) in
    let h = parts_all a.out.now a.at (encode F a.id ∷ encode F c.unwrap-z.result ∷ []) whole c.requires.room_for in
    parts-room (parts_then h c.put-a.ensures)

pub returns : goal.returns
returns c =
    let a = c.args in
    let F = rows a.form in
    let whole = number-bytes a.id a.c _ c.unwrap-z.ensures F a.stands (ap not c.if-not-stands.false) in
    let h = parts_all a.out.now a.at (encode F a.id ∷ encode F c.unwrap-z.result ∷ []) whole c.requires.room_for in
    parts_none (parts_then (parts_then h c.put-a.ensures) c.put.ensures)
