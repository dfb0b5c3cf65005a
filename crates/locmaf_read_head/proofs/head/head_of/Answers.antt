-- `locmaf_read_head::head::head_of` meets its contract, by the laws of `proofs/HeadLaws.antt`.
use mathlib.Core.Path.{sym, ◌∙◌}
use Rattle.std.proofs.lemmas.Result.{err_from_is_err_and}
use Rattle.locmaf_read_block.proofs.ReadLaws.{found}
use Rattle.locmaf_read_head.proofs.HeadLaws.{unread, head-none, head-full, head-delta, head-other}
use Rattle.locmaf_read_head.proofs.head.head_of.Goals as goal

pub returns-in_err-id : goal.returns-in_err-id
returns-in_err-id c =
    let p = err_from_is_err_and c.from_residual.result c.from_residual.ensures.1 in
    let k = unread c.in_err-id.ensures.value c.in_err-id.ensures.ok_part in
    rw (p.1, p.2, k) (head-none _ _ (sym c.in_err-id.ensures.ok_part ∙ c.read.ensures))

pub returns-then-id-eq-FULL : goal.returns-then-id-eq-FULL
returns-then-id-eq-FULL c =
    head-full _ _ _ _ (found _ _ _ _ _ _ (sym c.in_ok-id.ensures.ok_part ∙ c.read.ensures)) c.if-id-eq-FULL.true _ c.block_at.ensures

pub returns-then-id-eq-DELTA : goal.returns-then-id-eq-DELTA
returns-then-id-eq-DELTA c =
    head-delta _ _ _ _ (found _ _ _ _ _ _ (sym c.in_ok-id.ensures.ok_part ∙ c.read.ensures)) c.if-id-eq-FULL.false c.if-id-eq-DELTA.true
    _
    c.block_at-then-id-eq-DELTA.ensures

pub returns : goal.returns
returns c = head-other _ _ _ _ (found _ _ _ _ _ _ (sym c.in_ok-id.ensures.ok_part ∙ c.read.ensures)) c.if-id-eq-FULL.false c.if-id-eq-DELTA.false
