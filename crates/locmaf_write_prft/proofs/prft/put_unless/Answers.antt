-- `locmaf_write_prft::prft::put_unless` meets its contract: an id that stands in a `prft` unless it is what its absence means.
use mathlib.Core.Path.{ap}
use mathlib.Core.Bool.{not}
use Rattle.locmaf_write_tuples.proofs.PutLaws.{put-none, put-needs, put_as}
use Rattle.locmaf_write_prft.proofs.TimeLaws.{no-unless, unless-is}
use Rattle.locmaf_write_prft.proofs.prft.put_unless.Goals as goal

pub returns-then-not-stands : goal.returns-then-not-stands
returns-then-not-stands c = put-none _ _ _ (no-unless _ _ _ _ _ _ (ap not c.if-not-stands.true)) c.requires.room_for

pub put_number-requires : goal.put_number-requires
put_number-requires c =
    let k = unless-is _ _ _ _ _ _ (ap not c.if-not-stands.false) c.coding_for.ensures c.code-c.ensures in
    let h = put-needs _ k _ _ c.requires.v_value c.requires.room_for in
    record { c_value = h.0; room_for = h.1 }

pub returns : goal.returns
returns c = put_as _ (unless-is _ _ _ _ _ _ (ap not c.if-not-stands.false) c.coding_for.ensures c.code-c.ensures) c.put_number.ensures
