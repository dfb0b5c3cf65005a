-- `cmaf_write_prelude::outer::prft_length` meets its contract.
use native.Mathlib.Omega.{arith}
use mathlib.Core.Path.{sym, ap}
use borrow.Author.Tests.{not-true, not-false}
use lib.ListN.{length}
use Rattle.laws.proofs.BytesLaws.{length-be}
use Rattle.cmaf_write_prelude.proofs.OuterLaws.{media-short, media-long, prft-none, prft-length}
use Rattle.cmaf_write_prelude.proofs.outer.prft_length.Goals as goal

pub returns-then-not-p : goal.returns-then-not-p
returns-then-not-p c = (λ t. ap length (sym (prft-none t c.args.p (not-true _ c.if-not-p.true))), omega arith)

pub returns-then-p-eq0 : goal.returns-then-p-eq0
returns-then-p-eq0 c =
    let a = c.args in
    let m = ap length (media-short a.p.version a.p.media.0 c.if-p-eq0.true) in
    (λ t. omega (arith, prft-length t a.p (not-false _ c.if-not-p.false), length-be 4 a.p.media.0), omega arith)

pub returns-else-p-eq0 : goal.returns-else-p-eq0
returns-else-p-eq0 c =
    let a = c.args in
    let m = ap length (media-long a.p.version a.p.media.0 c.if-p-eq0.false) in
    (λ t. omega (arith, prft-length t a.p (not-false _ c.if-not-p.false), length-be 8 a.p.media.0), omega arith)
