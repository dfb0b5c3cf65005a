-- `cmaf_write_front::front::put_front` meets its contract: its boxes one after another, from the first byte on.
use native.Mathlib.Omega.{arith}
use Rattle.laws.specs.Bytes.{be}
use Rattle.laws.proofs.PartLaws.{parts_all, parts-room, parts_then, parts_none}
use Rattle.boxes.specs.Box.{words}
use Rattle.event_value.specs.Events.{events_of}
use Rattle.cmaf_write_front.proofs.FrontLaws.{front_parts, front-parts, left-for-moof}
use Rattle.cmaf_write_front.proofs.front.put_front.Goals as goal

pub put_styp-a-requires : goal.put_styp-a-requires
put_styp-a-requires c =
    let a = c.args in
    let es = events_of a.o.now a.events.now a.k in
    let parts = front_parts a.t a.sequence a.w.now a.payload a.prft es a.brands.now in
    let whole = front-parts a.t a.sequence a.w.now a.payload a.prft es a.brands.now in
    let h = parts_all a.out.now 0 parts whole (omega (arith, c.requires.need_value, c.requires.need_in_bounds)) in
    record { branded = c.requires.writable.brands; brands_in_bounds = parts-room h }

pub put_prft-b-requires : goal.put_prft-b-requires
put_prft-b-requires c =
    let a = c.args in
    let es = events_of a.o.now a.events.now a.k in
    let parts = front_parts a.t a.sequence a.w.now a.payload a.prft es a.brands.now in
    let whole = front-parts a.t a.sequence a.w.now a.payload a.prft es a.brands.now in
    let h = parts_all a.out.now 0 parts whole (omega (arith, c.requires.need_value, c.requires.need_in_bounds)) in
    record { headed = c.requires.writable.prft; p_in_bounds = parts-room (parts_then h c.put_styp-a.ensures) }

pub put_emsgs-c-requires : goal.put_emsgs-c-requires
put_emsgs-c-requires c =
    let a = c.args in
    let es = events_of a.o.now a.events.now a.k in
    let parts = front_parts a.t a.sequence a.w.now a.payload a.prft es a.brands.now in
    let whole = front-parts a.t a.sequence a.w.now a.payload a.prft es a.brands.now in
    let h = parts_all a.out.now 0 parts whole (omega (arith, c.requires.need_value, c.requires.need_in_bounds)) in
    record { events_fit = c.requires.writable.events; k_in_bounds = parts-room (parts_then (parts_then h c.put_styp-a.ensures) c.put_prft-b.ensures) }

pub overflow_sub-need : goal.overflow_sub-need
overflow_sub-need c =
    let a = c.args in
    let es = events_of a.o.now a.events.now a.k in
    let z = left-for-moof a.t a.sequence a.w.now a.payload a.prft es a.brands.now c.put_styp-a.ensures c.put_prft-b.ensures c.put_emsgs-c.ensures in
    omega (arith, c.requires.need_value)

pub overflow_sub-need-2 : goal.overflow_sub-need-2
overflow_sub-need-2 c =
    let a = c.args in
    let es = events_of a.o.now a.events.now a.k in
    let z = left-for-moof a.t a.sequence a.w.now a.payload a.prft es a.brands.now c.put_styp-a.ensures c.put_prft-b.ensures c.put_emsgs-c.ensures in
    omega (arith, c.requires.need_value)

pub put_moof-d-requires : goal.put_moof-d-requires
put_moof-d-requires c =
    let a = c.args in
    let es = events_of a.o.now a.events.now a.k in
    let parts = front_parts a.t a.sequence a.w.now a.payload a.prft es a.brands.now in
    let whole = front-parts a.t a.sequence a.w.now a.payload a.prft es a.brands.now in
    let h = parts_all a.out.now 0 parts whole (omega (arith, c.requires.need_value, c.requires.need_in_bounds)) in
    let k = parts_then (parts_then (parts_then h c.put_styp-a.ensures) c.put_prft-b.ensures) c.put_emsgs-c.ensures in
    let z = left-for-moof a.t a.sequence a.w.now a.payload a.prft es a.brands.now c.put_styp-a.ensures c.put_prft-b.ensures c.put_emsgs-c.ensures in
    record { protectable = c.requires.writable.set; sized = c.requires.writable.sized; whole_value = omega (arith, c.requires.need_value); payload_in_bounds = parts-room k }

pub put_words-requires : goal.put_words-requires
unfolding words be
put_words-requires c =
    let a = c.args in
    let es = events_of a.o.now a.events.now a.k in
    let parts = front_parts a.t a.sequence a.w.now a.payload a.prft es a.brands.now in
    let whole = front-parts a.t a.sequence a.w.now a.payload a.prft es a.brands.now in
    let h = parts_all a.out.now 0 parts whole (omega (arith, c.requires.need_value, c.requires.need_in_bounds)) in
    let k = parts_then (parts_then (parts_then h c.put_styp-a.ensures) c.put_prft-b.ensures) c.put_emsgs-c.ensures in
    parts-room (parts_then k c.put_moof-d.ensures)

pub returns : goal.returns
returns c =
    let a = c.args in
    let es = events_of a.o.now a.events.now a.k in
    let parts = front_parts a.t a.sequence a.w.now a.payload a.prft es a.brands.now in
    let whole = front-parts a.t a.sequence a.w.now a.payload a.prft es a.brands.now in
    let h = parts_all a.out.now 0 parts whole (omega (arith, c.requires.need_value, c.requires.need_in_bounds)) in
    let k = parts_then (parts_then (parts_then h c.put_styp-a.ensures) c.put_prft-b.ensures) c.put_emsgs-c.ensures in
    parts_none (parts_then (parts_then k c.put_moof-d.ensures) c.put_words.ensures)
