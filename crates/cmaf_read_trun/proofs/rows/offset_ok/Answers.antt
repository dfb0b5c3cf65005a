-- `cmaf_read_trun::rows::offset_ok` meets its contract.
use mathlib.Core.Bool.{◌&&◌}
use Prim.Native.Nat.{◌+◌}
use lib.Dec.{eqb, ltb}
use Rattle.cmaf_read_trun.proofs.rows.offset_ok.Goals as goal

pub returns : goal.returns
returns c =
    let e = c.data_offset-offset.ensures.0 in
    let m = c.args.moof in
    λ j. ltb (e j) 0x8000_0000 && eqb (e j) (m.len + 8)
