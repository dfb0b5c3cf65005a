-- `cmaf_read_senc::entries::senc_count` meets its contract, whether the box stands or not.
use native.Mathlib.Omega.{arith}
use mathlib.Core.Path.{◌∙◌}
use Rattle.cmaf_read_senc.proofs.SencLaws.{count_none, count-some}
use Rattle.cmaf_read_senc.proofs.entries.senc_count.Goals as goal

pub returns-then-b-lt-HEAD : goal.returns-then-b-lt-HEAD
returns-then-b-lt-HEAD c = let a = c.args in (count_none a.c.now a.b c.if-b-lt-HEAD.true, omega arith)

pub returns : goal.returns
returns c =
    let a = c.args in
    (c.u32_at.ensures.0 ∙ count-some a.c.now a.b c.if-b-lt-HEAD.false, c.u32_at.ensures.1)
