-- `cmaf_write_moof::moof::put_trun` meets its contract: its parts one after another.
use native.Mathlib.Omega.{arith}
use Rattle.laws.specs.Bytes.{be}
use Rattle.laws.proofs.PartLaws.{parts_all, parts-room, parts_then, parts_none}
use Rattle.field_table.specs.Lines.{lines, line_for}
use Rattle.field_set.specs.Lawful.{has}
use Rattle.boxes.specs.Box.{words}
use Rattle.cmaf_write_moof.proofs.MoofLaws.{trun_parts, trun-parts, when-as}
use Rattle.cmaf_write_moof.proofs.moof.put_trun.Goals as goal

pub put_words-a-requires : goal.put_words-a-requires
unfolding words be has lines line_for
put_words-a-requires c =
    let a = c.args in
    let w = a.w.now in
    let size = c.trun_length in
    let flags = c.trun_flags in
    let whole = trun-parts a.t w a.payload a.offset size.result flags.result size.ensures.0 flags.ensures.0 in
    let h = parts_all a.out.now a.at (trun_parts a.t w a.payload a.offset size.result flags.result) whole c.requires.offset_in_bounds in
    parts-room h

pub put_when-b-requires : goal.put_when-b-requires
unfolding has lines line_for
put_when-b-requires c =
    let a = c.args in
    let w = a.w.now in
    let size = c.trun_length in
    let flags = c.trun_flags in
    let whole = trun-parts a.t w a.payload a.offset size.result flags.result size.ensures.0 flags.ensures.0 in
    let h = parts_all a.out.now a.at (trun_parts a.t w a.payload a.offset size.result flags.result) whole c.requires.offset_in_bounds in
    rw c.wide.ensures (parts-room (parts_then h c.put_words-a.ensures))

pub put_rows-requires : goal.put_rows-requires
unfolding has lines line_for
put_rows-requires c =
    let a = c.args in
    let w = a.w.now in
    let size = c.trun_length in
    let flags = c.trun_flags in
    let whole = trun-parts a.t w a.payload a.offset size.result flags.result size.ensures.0 flags.ensures.0 in
    let h = parts_all a.out.now a.at (trun_parts a.t w a.payload a.offset size.result flags.result) whole c.requires.offset_in_bounds in
    record { w_len = c.requires.w_len; sized = c.requires.sized; w_in_bounds = parts-room (parts_then (parts_then h c.put_words-a.ensures) (when-as _ c.wide.ensures c.put_when-b.ensures)) }

pub returns : goal.returns
unfolding has lines line_for
returns c =
    let a = c.args in
    let w = a.w.now in
    let size = c.trun_length in
    let flags = c.trun_flags in
    let whole = trun-parts a.t w a.payload a.offset size.result flags.result size.ensures.0 flags.ensures.0 in
    let h = parts_all a.out.now a.at (trun_parts a.t w a.payload a.offset size.result flags.result) whole c.requires.offset_in_bounds in
    parts_none (parts_then (parts_then (parts_then h c.put_words-a.ensures) (when-as _ c.wide.ensures c.put_when-b.ensures)) c.put_rows.ensures)
