-- `cmaf_write_moof::moof::put_plain` meets its contract: the three boxes one after another.
use mathlib.Core.List.{[], ◌∷◌}
use Rattle.laws.proofs.PartLaws.{parts_all, parts-room, parts_then, parts_none}
use Rattle.cmaf_write_moof.specs.Moof.{tfhd_box, tfdt_box, trun_box}
use Rattle.cmaf_write_moof.proofs.MoofLaws.{plain-parts}
use Rattle.cmaf_write_moof.proofs.moof.put_plain.Goals as goal

pub put_tfhd-a-requires : goal.put_tfhd-a-requires
put_tfhd-a-requires c =
    let a = c.args in
    let w = a.w.now in
    let parts = tfhd_box a.t w ∷ tfdt_box w ∷ trun_box a.t w a.payload a.offset ∷ [] in
    let h = parts_all a.out.now a.at parts (plain-parts a.t w a.payload a.offset) c.requires.offset_in_bounds in
    record { w_len = c.requires.w_len.0; w_in_bounds = parts-room h }

pub put_tfdt-b-requires : goal.put_tfdt-b-requires
put_tfdt-b-requires c =
    let a = c.args in
    let w = a.w.now in
    let parts = tfhd_box a.t w ∷ tfdt_box w ∷ trun_box a.t w a.payload a.offset ∷ [] in
    let h = parts_all a.out.now a.at parts (plain-parts a.t w a.payload a.offset) c.requires.offset_in_bounds in
    record { w_len = c.requires.w_len.0; w_in_bounds = parts-room (parts_then h c.put_tfhd-a.ensures) }

pub put_trun-requires : goal.put_trun-requires
put_trun-requires c =
    let a = c.args in
    let w = a.w.now in
    let parts = tfhd_box a.t w ∷ tfdt_box w ∷ trun_box a.t w a.payload a.offset ∷ [] in
    let h = parts_all a.out.now a.at parts (plain-parts a.t w a.payload a.offset) c.requires.offset_in_bounds in
    record { w_len = c.requires.w_len; sized = c.requires.sized; offset_in_bounds = parts-room (parts_then (parts_then h c.put_tfhd-a.ensures) c.put_tfdt-b.ensures) }

pub returns : goal.returns
returns c =
    let a = c.args in
    let w = a.w.now in
    let parts = tfhd_box a.t w ∷ tfdt_box w ∷ trun_box a.t w a.payload a.offset ∷ [] in
    let h = parts_all a.out.now a.at parts (plain-parts a.t w a.payload a.offset) c.requires.offset_in_bounds in
    parts_none (parts_then (parts_then (parts_then h c.put_tfhd-a.ensures) c.put_tfdt-b.ensures) c.put_trun.ensures)
