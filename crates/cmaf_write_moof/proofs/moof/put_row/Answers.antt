-- `cmaf_write_moof::moof::put_row` meets its contract: its columns one after another.
use native.Mathlib.Omega.{arith}
use Rattle.laws.specs.Bytes.{be}
use Rattle.laws.proofs.PartLaws.{parts_all, parts-room, parts_then, parts_none}
use Rattle.field_table.specs.Lines.{lines, line_for}
use Rattle.field_set.specs.Lawful.{has}
use Rattle.cmaf_write_moof.proofs.MoofLaws.{row_parts, row-parts, when-as}
use Rattle.cmaf_write_moof.proofs.moof.put_row.Goals as goal

pub put_when-a-requires : goal.put_when-a-requires
unfolding has lines line_for
put_when-a-requires c =
    let a = c.args in
    parts-room (parts_all a.out.now a.at (row_parts a.w.now a.size a.i) (row-parts a.w.now a.size a.i) c.requires.i_in_bounds)

pub put_u32-b-requires : goal.put_u32-b-requires
unfolding be has lines line_for
put_u32-b-requires c =
    let a = c.args in
    let h = parts_all a.out.now a.at (row_parts a.w.now a.size a.i) (row-parts a.w.now a.size a.i) c.requires.i_in_bounds in
    parts-room (parts_then h c.put_when-a.ensures)

pub put_when-c-requires : goal.put_when-c-requires
unfolding has lines line_for
put_when-c-requires c =
    let a = c.args in
    let h = parts_all a.out.now a.at (row_parts a.w.now a.size a.i) (row-parts a.w.now a.size a.i) c.requires.i_in_bounds in
    rw c.wide.ensures (parts-room (parts_then (parts_then h c.put_when-a.ensures) c.put_u32-b.ensures))

pub put_when-requires : goal.put_when-requires
unfolding has lines line_for
put_when-requires c =
    let a = c.args in
    let h = parts_all a.out.now a.at (row_parts a.w.now a.size a.i) (row-parts a.w.now a.size a.i) c.requires.i_in_bounds in
    let k = parts_then (parts_then h c.put_when-a.ensures) c.put_u32-b.ensures in
    rw c.offset_field.ensures (parts-room (parts_then k (when-as _ c.wide.ensures c.put_when-c.ensures)))

pub returns : goal.returns
unfolding has lines line_for
returns c =
    let a = c.args in
    let h = parts_all a.out.now a.at (row_parts a.w.now a.size a.i) (row-parts a.w.now a.size a.i) c.requires.i_in_bounds in
    let k = parts_then (parts_then h c.put_when-a.ensures) c.put_u32-b.ensures in
    parts_none (parts_then (parts_then k (when-as _ c.wide.ensures c.put_when-c.ensures)) (when-as _ c.offset_field.ensures c.put_when.ensures))
