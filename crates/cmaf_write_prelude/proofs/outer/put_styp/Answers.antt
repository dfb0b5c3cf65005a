-- `cmaf_write_prelude::outer::put_styp` meets its contract: its parts one after another.
use native.Mathlib.Omega.{arith}
use mathlib.Core.Path.{sym}
use lib.Seq.{length-take-le}
use Rattle.laws.specs.Bytes.{be}
use Rattle.laws.proofs.PartLaws.{parts_all, parts-room, parts_then, parts_none}
use Rattle.laws.proofs.WriteLaws.{wrote_none, wrote_as}
use Rattle.boxes.specs.Box.{words}
use Rattle.cmaf_write_prelude.proofs.OuterLaws.{styp_parts, styp-none, styp-parts, rest-is}
use Rattle.cmaf_write_prelude.proofs.outer.put_styp.Goals as goal

pub returns-then-brands-eq0 : goal.returns-then-brands-eq0
returns-then-brands-eq0 c =
    let a = c.args in
    wrote_as (sym (styp-none a.brands.now c.if-brands-eq0.true)) (wrote_none a.out.now a.at (omega (arith, c.requires.brands_in_bounds)))

pub put_words-a-requires : goal.put_words-a-requires
unfolding words be
put_words-a-requires c =
    let a = c.args in
    let bs = a.brands.now in
    let h = parts_all a.out.now a.at (styp_parts bs) (styp-parts bs c.if-brands-eq0.false) c.requires.brands_in_bounds in
    parts-room h

pub slice_bounds-put_bytes-end : goal.slice_bounds-put_bytes-end
slice_bounds-put_bytes-end c = sym (length-take-le 4 c.args.brands.now (omega (arith, c.requires.branded.fours, c.if-brands-eq0.false)))

pub put_bytes-b-requires : goal.put_bytes-b-requires
put_bytes-b-requires c =
    let a = c.args in
    let bs = a.brands.now in
    let h = parts_all a.out.now a.at (styp_parts bs) (styp-parts bs c.if-brands-eq0.false) c.requires.brands_in_bounds in
    parts-room (parts_then h c.put_words-a.ensures)

pub put_u32-c-requires : goal.put_u32-c-requires
unfolding be
put_u32-c-requires c =
    let a = c.args in
    let bs = a.brands.now in
    let h = parts_all a.out.now a.at (styp_parts bs) (styp-parts bs c.if-brands-eq0.false) c.requires.brands_in_bounds in
    parts-room (parts_then (parts_then h c.put_words-a.ensures) c.put_bytes-b.ensures)

pub put_bytes-requires : goal.put_bytes-requires
put_bytes-requires c =
    let a = c.args in
    let bs = a.brands.now in
    let h = parts_all a.out.now a.at (styp_parts bs) (styp-parts bs c.if-brands-eq0.false) c.requires.brands_in_bounds in
    let k = parts_then (parts_then h c.put_words-a.ensures) c.put_bytes-b.ensures in
    rw (rest-is 4 bs) (parts-room (parts_then k c.put_u32-c.ensures))

pub returns : goal.returns
returns c =
    let a = c.args in
    let bs = a.brands.now in
    let h = parts_all a.out.now a.at (styp_parts bs) (styp-parts bs c.if-brands-eq0.false) c.requires.brands_in_bounds in
    let k = parts_then (parts_then h c.put_words-a.ensures) c.put_bytes-b.ensures in
    parts_none (parts_then (parts_then k c.put_u32-c.ensures) (wrote_as (rest-is 4 bs) c.put_bytes.ensures))
