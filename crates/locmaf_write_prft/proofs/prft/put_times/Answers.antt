-- `locmaf_write_prft::prft::put_times` meets its contract: without a `prft` nothing is written, with one an id after the other.
use Rattle.locmaf_write_tuples.proofs.PutLaws.{put-none, left-first, left-next}
use Rattle.locmaf_write_prft.proofs.TimeLaws.{no-times, times-left}
use Rattle.locmaf_write_prft.proofs.prft.put_times.Goals as goal

pub returns-then-not-p : goal.returns-then-not-p
returns-then-not-p c = put-none _ _ _ (no-times _ _ _ _ c.if-not-p.true) c.requires.room_for

pub put_number-a-requires : goal.put_number-a-requires
put_number-a-requires c =
    let k = times-left _ _ _ _ c.if-not-p.false c.ntp_number-n.ensures c.media_number-m.ensures
    c.args.out.now _ c.requires.p_value c.requires.room_for in
    let h = left-first _ _ _ _ _ _ _ _ k in
    record { c_value = h.0; room_for = h.1 }

pub put_number-requires : goal.put_number-requires
put_number-requires c =
    let k = times-left _ _ _ _ c.if-not-p.false c.ntp_number-n.ensures c.media_number-m.ensures
    c.args.out.now _ c.requires.p_value c.requires.room_for in
    let h = left-next _ _ _ _ _ _ _ _ k _ _ c.put_number-a.ensures in
    record { c_value = h.fits; room_for = h.room }

pub returns : goal.returns
returns c =
    let k = times-left _ _ _ _ c.if-not-p.false c.ntp_number-n.ensures c.media_number-m.ensures
    c.args.out.now _ c.requires.p_value c.requires.room_for in
    let h = left-next _ _ _ _ _ _ _ _ k _ _ c.put_number-a.ensures in
    h.rest _ _ c.put_number.ensures
