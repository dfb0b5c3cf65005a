-- `cmaf_write_emsg::emsg::put_emsg` meets its contract: its parts one after another.
use Prim.Native.Nat.{ℕ, ◌+◌, ◌≤◌}
use mathlib.Core.Path.{◌≡◌}
use mathlib.Core.List.{List}
use lib.ListN.{length}
use Rattle.laws.proofs.PartLaws.{Parts, parts_all, parts-room, parts_then, parts_none}
use Rattle.event_value.specs.Events.{event_at}
use Rattle.cmaf_write_emsg.specs.Emsg.{emsg_box, emsg_head}
use Rattle.cmaf_write_emsg.proofs.EmsgLaws.{fits-short, emsg_parts, emsg-parts}
use Rattle.cmaf_write_emsg.proofs.emsg.put_emsg.Goals as goal

-- all parts are left
begun : (o event out : List ℕ) {at size : ℕ} → let e = event_at o event 0 in
    size ≡ length (emsg_box e) → at + length (emsg_box e) ≤ length out → Parts out at (emsg_box e) out at (emsg_parts e size)
begun o event out {at} {size} s room = let e = event_at o event 0 in parts_all out at (emsg_parts e size) (emsg-parts e size s) room

pub emsg_length-requires : goal.emsg_length-requires
emsg_length-requires c = fits-short c.requires.event_fits

pub put_head-a-requires : goal.put_head-a-requires
unfolding event_at emsg_head
put_head-a-requires c = record { event_words_in_bounds = c.requires.event_fits.there; event_in_bounds = parts-room (begun c.args.o.now c.args.event.now c.args.out.now (c.emsg_length.ensures.0 c.args.o.now c.requires.event_fits) c.requires.event_in_bounds) }

pub put_string-b-requires : goal.put_string-b-requires
unfolding event_at emsg_head
put_string-b-requires c = record { inside = c.requires.event_fits.scheme; size_in_bounds = parts-room (parts_then (begun c.args.o.now c.args.event.now c.args.out.now (c.emsg_length.ensures.0 c.args.o.now c.requires.event_fits) c.requires.event_in_bounds) c.put_head-a.ensures) }

pub put_string-c-requires : goal.put_string-c-requires
unfolding event_at emsg_head
put_string-c-requires c =
    let h = parts_then (parts_then (begun c.args.o.now c.args.event.now c.args.out.now (c.emsg_length.ensures.0 c.args.o.now c.requires.event_fits) c.requires.event_in_bounds) c.put_head-a.ensures) c.put_string-b.ensures in
    record { inside = c.requires.event_fits.value; size_in_bounds = parts-room h }

pub put_part-requires : goal.put_part-requires
unfolding event_at emsg_head
put_part-requires c =
    let h = parts_then (parts_then (begun c.args.o.now c.args.event.now c.args.out.now (c.emsg_length.ensures.0 c.args.o.now c.requires.event_fits) c.requires.event_in_bounds) c.put_head-a.ensures) c.put_string-b.ensures in
    record { inside = c.requires.event_fits.message; size_in_bounds = parts-room (parts_then h c.put_string-c.ensures) }

pub returns : goal.returns
unfolding event_at emsg_head
returns c =
    let h = parts_then (parts_then (begun c.args.o.now c.args.event.now c.args.out.now (c.emsg_length.ensures.0 c.args.o.now c.requires.event_fits) c.requires.event_in_bounds) c.put_head-a.ensures) c.put_string-b.ensures in
    parts_none (parts_then (parts_then h c.put_string-c.ensures) c.put_part.ensures)
