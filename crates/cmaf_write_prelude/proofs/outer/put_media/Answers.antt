-- `cmaf_write_prelude::outer::put_media` meets its contract.
use native.Mathlib.Omega.{arith}
use mathlib.Core.Path.{sym, ap}
use lib.ListN.{length}
use Rattle.laws.proofs.BytesLaws.{length-be}
use Rattle.laws.proofs.WriteLaws.{wrote_as}
use Rattle.cmaf_write_prelude.proofs.OuterLaws.{media-short, media-long}
use Rattle.cmaf_write_prelude.proofs.outer.put_media.Goals as goal

pub put_u32-requires : goal.put_u32-requires
put_u32-requires c =
    let a = c.args in
    omega (arith, ap length (media-short a.version a.media.0 c.if-version-eq0.true), length-be 4 a.media.0)

pub returns-then-version-eq0 : goal.returns-then-version-eq0
returns-then-version-eq0 c =
    let a = c.args in
    wrote_as (sym (media-short a.version a.media.0 c.if-version-eq0.true)) c.put_u32.ensures

pub put_u64-requires : goal.put_u64-requires
put_u64-requires c =
    let a = c.args in
    omega (arith, ap length (media-long a.version a.media.0 c.if-version-eq0.false), length-be 8 a.media.0)

pub returns : goal.returns
returns c =
    let a = c.args in
    wrote_as (sym (media-long a.version a.media.0 c.if-version-eq0.false)) c.put_u64.ensures
