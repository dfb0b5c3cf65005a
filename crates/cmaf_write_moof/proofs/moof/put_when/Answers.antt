-- `cmaf_write_moof::moof::put_when` meets its contract.
use native.Mathlib.Omega.{arith}
use mathlib.Core.Path.{sym, ap}
use mathlib.Core.Bool.{Bool}
use lib.ListN.{length}
use Rattle.laws.specs.Bytes.{be}
use Rattle.laws.proofs.BytesLaws.{length-be}
use Rattle.laws.proofs.WriteLaws.{wrote_as, wrote_none}
use Rattle.boxes.specs.Box.{when}
use Rattle.cmaf_write_moof.proofs.moof.put_when.Goals as goal

pub put_u32-requires : goal.put_u32-requires
put_u32-requires c =
    let a = c.args in
    omega (arith, ap (λ (b : Bool). length (when b (be 4 a.v))) c.if-b.true, length-be 4 a.v, c.requires)

pub returns-then-b : goal.returns-then-b
returns-then-b c = wrote_as (ap (λ (b : Bool). when b (be 4 c.args.v)) (sym c.if-b.true)) c.put_u32.ensures

pub returns : goal.returns
returns c =
    let a = c.args in
    wrote_as (ap (λ (b : Bool). when b (be 4 a.v)) (sym c.if-b.false)) (wrote_none a.out.now a.at (omega (arith, c.requires)))
