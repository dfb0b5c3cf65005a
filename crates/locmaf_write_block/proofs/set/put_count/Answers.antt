-- `locmaf_write_block::set::put_count` meets its contract: an id that may stand.
use Rattle.locmaf_write_tuples.proofs.PutLaws.{put-none, put-needs, put_as}
use Rattle.locmaf_write_block.proofs.StandLaws.{no-count, count-is}
use mathlib.Core.Path.{ap}
use mathlib.Core.Bool.{not}
use Rattle.locmaf_write_block.proofs.set.put_count.Goals as goal

pub returns-then-not-count_stands : goal.returns-then-not-count_stands
returns-then-not-count_stands c = put-none _ _ _ (no-count _ _ _ _ c.count_stands.ensures (ap not c.if-not-count_stands.true)) c.requires.room_for

pub put_number-requires : goal.put_number-requires
put_number-requires c =
    let k = count-is _ _ _ _ c.count_stands.ensures (ap not c.if-not-count_stands.false) c.coding_for.ensures c.code-c.ensures in
    let h = put-needs _ k _ _ c.requires.x_value c.requires.room_for in
    record { c_value = h.0; room_for = h.1 }

pub returns : goal.returns
returns c =
    let stands = c.count_stands.ensures in
    put_as _ (count-is _ _ _ _ stands (ap not c.if-not-count_stands.false) c.coding_for.ensures c.code-c.ensures) c.put_number.ensures
