-- `cmaf_read_senc::entries::senc_read` meets its contract, whether the box stands or not, and by what the entries have.
use mathlib.Core.Path.{sym, ◌∙◌}
use borrow.Author.Tests.{eq-eqb, ne_eqb}
use Rattle.cmaf_read_senc.proofs.SencLaws.{senc-short, senc-by, sum-none, sum_by}
use Rattle.cmaf_read_senc.proofs.entries.senc_read.Goals as goal

pub returns-then-b-eq0 : goal.returns-then-b-eq0
returns-then-b-eq0 c =
    let a = c.args in
    let h = c.if-b-lt-HEAD.true in
    (sym (eq-eqb _ _ c.if-b-eq0.true) ∙ senc-short a.t a.c.now a.b h, sum-none a.t a.c.now a.b h)

pub returns-then-b-lt-HEAD : goal.returns-then-b-lt-HEAD
returns-then-b-lt-HEAD c =
    let a = c.args in
    let h = c.if-b-lt-HEAD.true in
    (sym (ne_eqb _ _ c.if-b-eq0.false) ∙ senc-short a.t a.c.now a.b h, sum-none a.t a.c.now a.b h)

pub returns : goal.returns
returns c =
    let a = c.args in
    let h = c.if-b-lt-HEAD.false in
    let e = c.senc_filled.ensures in
    (senc-by a.t a.c.now a.b h _ e, sum_by a.t a.c.now a.b h _ e)
