-- `locmaf_write_block::set::put_bmdt` meets its contract: an id that may stand.
use Rattle.locmaf_write_tuples.proofs.PutLaws.{put-none, put-needs, put_as}
use Rattle.locmaf_write_block.proofs.StandLaws.{no-bmdt, bmdt-sent}
use mathlib.Core.Path.{ap}
use mathlib.Core.Bool.{not}
use Rattle.locmaf_write_block.proofs.set.put_bmdt.Goals as goal

pub returns-then-not-stands : goal.returns-then-not-stands
returns-then-not-stands c = put-none _ _ _ (no-bmdt _ c.args.x.now _ (ap not c.if-not-stands.true)) c.requires.room_for

pub put_number-requires : goal.put_number-requires
put_number-requires c =
    let k = bmdt-sent _ c.args.x.now _ (ap not c.if-not-stands.false) c.code-c.ensures in
    let h = put-needs _ k _ _ c.requires.x_value c.requires.room_for in
    record { c_value = h.0; room_for = h.1 }

pub returns : goal.returns
returns c = put_as _ (bmdt-sent _ c.args.x.now _ (ap not c.if-not-stands.false) c.code-c.ensures) c.put_number.ensures
