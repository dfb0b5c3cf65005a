-- `cmaf_write_moof::moof::put_moof` meets its contract: its parts one after another.
use native.Mathlib.Omega.{arith}
use Rattle.laws.specs.Bytes.{be}
use Rattle.laws.proofs.PartLaws.{parts_all, parts-room, parts_then, parts_none}
use Rattle.boxes.specs.Box.{words}
use Rattle.cmaf_write_moof.proofs.MoofLaws.{moof_parts, size_is, sized-parts}
use Rattle.cmaf_write_moof.proofs.moof.put_moof.Goals as goal

pub overflow_sub-head : goal.overflow_sub-head
overflow_sub-head c =
    let a = c.args in
    let z = size_is a.t a.sequence a.w.now a.payload a.whole c.requires.whole_value in
    omega arith

pub put_words-a-requires : goal.put_words-a-requires
unfolding words be
put_words-a-requires c =
    let a = c.args in
    let w = a.w.now in
    let all = sized-parts a.t a.sequence w a.payload a.whole c.requires.whole_value in
    parts-room (parts_all a.out.now a.at (moof_parts a.t a.sequence w a.payload a.whole) all c.requires.payload_in_bounds)

pub put_plain-b-requires : goal.put_plain-b-requires
put_plain-b-requires c =
    let a = c.args in
    let w = a.w.now in
    let all = sized-parts a.t a.sequence w a.payload a.whole c.requires.whole_value in
    let h = parts_all a.out.now a.at (moof_parts a.t a.sequence w a.payload a.whole) all c.requires.payload_in_bounds in
    record { w_len = (c.requires.protectable.long, c.requires.protectable.few); sized = c.requires.sized; offset_in_bounds = parts-room (parts_then h c.put_words-a.ensures) }

pub put_protection-requires : goal.put_protection-requires
put_protection-requires c =
    let a = c.args in
    let w = a.w.now in
    let all = sized-parts a.t a.sequence w a.payload a.whole c.requires.whole_value in
    let h = parts_all a.out.now a.at (moof_parts a.t a.sequence w a.payload a.whole) all c.requires.payload_in_bounds in
    let e = c.plain_length.ensures.0 in
    let k = parts_then (parts_then h c.put_words-a.ensures) c.put_plain-b.ensures in
    record { protectable = c.requires.protectable; place_bound = omega (arith, c.plain_length.ensures.1); place_in_bounds = rw e (parts-room k) }

pub returns : goal.returns
returns c =
    let a = c.args in
    let w = a.w.now in
    let all = sized-parts a.t a.sequence w a.payload a.whole c.requires.whole_value in
    let h = parts_all a.out.now a.at (moof_parts a.t a.sequence w a.payload a.whole) all c.requires.payload_in_bounds in
    let e = c.plain_length.ensures.0 in
    let k = parts_then (parts_then h c.put_words-a.ensures) c.put_plain-b.ensures in
    parts_none (parts_then k (rw e at c.put_protection.ensures))
