-- `locmaf_read_head::ids::ids_ok` meets its contract, by the kind of object.
use Rattle.locmaf_read_head.proofs.IdLaws.{ids-delta, ids-full}
use Rattle.locmaf_read_head.proofs.ids.ids_ok.Goals as goal
use Rattle.locmaf_read_head.proofs.ids.ids_ok.Goals.{then-delta, else-delta}

pub returns : goal.returns
returns c =
    let a = c.args in
    elim c.if-delta.branch [
      | then-delta w ↦ ids-delta a.delta a.kept a.index.now c.if-delta.here w.if-delta.true w.here-is
      | else-delta w ↦ ids-full a.delta a.kept a.index.now c.if-delta.here w.if-delta.false w.here-is
    ]
