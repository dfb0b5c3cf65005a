-- `cmaf_read_senc::sizes::leads_to` meets its contract, by what it reads.
use Prim.Native.Nat.{◌+◌}
use native.Mathlib.Omega.{arith}
use Rattle.cmaf_read_senc.specs.Entries.{senc_head}
use Rattle.cmaf_read_senc.proofs.SizeLaws.{leads-not, leads-by}
use Rattle.cmaf_read_senc.proofs.sizes.leads_to.Goals as goal

pub returns-then-b-ne20 : goal.returns-then-b-ne20
returns-then-b-ne20 c = let a = c.args in leads-not a.c.now a.b a.moof (a.senc.at + senc_head) c.if-b-ne20.true

pub returns : goal.returns
returns c =
    let a = c.args in
    leads-by a.c.now a.b a.moof (a.senc.at + senc_head) _ c.u32_at.ensures.0 (omega (arith, c.requires.2)) c.if-b-ne20.false
