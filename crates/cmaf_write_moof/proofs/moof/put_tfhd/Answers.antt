-- `cmaf_write_moof::moof::put_tfhd` meets its contract: its parts one after another.
use native.Mathlib.Omega.{arith}
use Rattle.laws.specs.Bytes.{be}
use Rattle.laws.proofs.PartLaws.{parts_all, parts-room, parts_then, parts_none}
use Rattle.field_table.specs.Lines.{lines, line_for}
use Rattle.field_set.specs.Lawful.{has}
use Rattle.boxes.specs.Box.{words}
use Rattle.cmaf_write_moof.proofs.MoofLaws.{tfhd_parts, tfhd-parts, when-as}
use Rattle.cmaf_write_moof.proofs.moof.put_tfhd.Goals as goal

pub put_words-a-requires : goal.put_words-a-requires
unfolding words be has lines line_for
put_words-a-requires c =
    let a = c.args in
    let w = a.w.now in
    let size = c.tfhd_length in
    let flags = c.tfhd_flags in
    let whole = tfhd-parts a.t w size.result flags.result size.ensures.0 flags.ensures in
    let h = parts_all a.out.now a.at (tfhd_parts a.t w size.result flags.result) whole c.requires.w_in_bounds in
    parts-room h

pub put_when-b-requires : goal.put_when-b-requires
unfolding has lines line_for
put_when-b-requires c =
    let a = c.args in
    let w = a.w.now in
    let size = c.tfhd_length in
    let flags = c.tfhd_flags in
    let whole = tfhd-parts a.t w size.result flags.result size.ensures.0 flags.ensures in
    let h = parts_all a.out.now a.at (tfhd_parts a.t w size.result flags.result) whole c.requires.w_in_bounds in
    parts-room (parts_then h c.put_words-a.ensures)

pub put_when-c-requires : goal.put_when-c-requires
unfolding has lines line_for
put_when-c-requires c =
    let a = c.args in
    let w = a.w.now in
    let size = c.tfhd_length in
    let flags = c.tfhd_flags in
    let whole = tfhd-parts a.t w size.result flags.result size.ensures.0 flags.ensures in
    let h = parts_all a.out.now a.at (tfhd_parts a.t w size.result flags.result) whole c.requires.w_in_bounds in
    parts-room (parts_then (parts_then h c.put_words-a.ensures) c.put_when-b.ensures)

pub put_when-requires : goal.put_when-requires
unfolding has lines line_for
put_when-requires c =
    let a = c.args in
    let w = a.w.now in
    let size = c.tfhd_length in
    let flags = c.tfhd_flags in
    let whole = tfhd-parts a.t w size.result flags.result size.ensures.0 flags.ensures in
    let h = parts_all a.out.now a.at (tfhd_parts a.t w size.result flags.result) whole c.requires.w_in_bounds in
    let k = parts_then (parts_then h c.put_words-a.ensures) c.put_when-b.ensures in
    rw c.wide.ensures (parts-room (parts_then k c.put_when-c.ensures))

pub returns : goal.returns
unfolding has lines line_for
returns c =
    let a = c.args in
    let w = a.w.now in
    let size = c.tfhd_length in
    let flags = c.tfhd_flags in
    let whole = tfhd-parts a.t w size.result flags.result size.ensures.0 flags.ensures in
    let h = parts_all a.out.now a.at (tfhd_parts a.t w size.result flags.result) whole c.requires.w_in_bounds in
    let k = parts_then (parts_then h c.put_words-a.ensures) c.put_when-b.ensures in
    parts_none (parts_then (parts_then k c.put_when-c.ensures) (when-as _ c.wide.ensures c.put_when.ensures))
