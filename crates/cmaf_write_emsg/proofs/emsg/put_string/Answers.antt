-- `cmaf_write_emsg::emsg::put_string` meets its contract: the part, and then the zero.
use mathlib.Core.Path.{refl}
use mathlib.Core.List.{[], ◌∷◌}
use Rattle.laws.specs.Bytes.{be}
use Rattle.laws.proofs.PartLaws.{parts_all, parts-room, parts_then, parts_none}
use Rattle.event_value.specs.Events.{part}
use Rattle.cmaf_write_emsg.proofs.emsg.put_string.Goals as goal

pub put_part-a-requires : goal.put_part-a-requires
put_part-a-requires c =
    let a = c.args in
    let s = part a.o.now a.place a.size in
    let h = parts_all a.out.now a.at (s ∷ (0 ∷ []) ∷ []) refl c.requires.size_in_bounds in
    record { inside = c.requires.inside; size_in_bounds = parts-room h }

pub put_u8-requires : goal.put_u8-requires
put_u8-requires c =
    let a = c.args in
    let s = part a.o.now a.place a.size in
    let h = parts_all a.out.now a.at (s ∷ (0 ∷ []) ∷ []) refl c.requires.size_in_bounds in
    parts-room (parts_then h c.put_part-a.ensures)

pub returns : goal.returns
unfolding be
returns c =
    let a = c.args in
    let s = part a.o.now a.place a.size in
    let h = parts_all a.out.now a.at (s ∷ (0 ∷ []) ∷ []) refl c.requires.size_in_bounds in
    parts_none (parts_then (parts_then h c.put_part-a.ensures) c.put_u8.ensures)
