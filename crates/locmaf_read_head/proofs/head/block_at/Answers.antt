-- `locmaf_read_head::head::block_at` meets its contract, by the laws of `proofs/HeadLaws.antt`.
use native.Mathlib.Omega.{arith}
use mathlib.Core.Path.{sym, ◌∙◌}
use Rattle.std.proofs.lemmas.Result.{err_from_is_err_and}
use Rattle.locmaf_read_block.proofs.ReadLaws.{found}
use Rattle.locmaf_read_head.proofs.HeadLaws.{unread, block_none, block-past, block-long, block-is}
use Rattle.locmaf_read_head.proofs.head.block_at.Goals as goal

pub returns-in_err-n : goal.returns-in_err-n
returns-in_err-n c =
    let p = err_from_is_err_and c.from_residual.result c.from_residual.ensures.1 in
    let k = unread c.in_err-n.ensures.value c.in_err-n.ensures.ok_part in
    rw (p.1, p.2, k) (block_none _ _ _ _ (sym c.in_err-n.ensures.ok_part ∙ c.read.ensures))

pub overflow_sub-o : goal.overflow_sub-o
overflow_sub-o c = (found _ _ _ _ _ _ (sym c.in_ok-n.ensures.ok_part ∙ c.read.ensures)).within

pub returns-then-o-at : goal.returns-then-o-at
returns-then-o-at c = block-past _ _ _ _ _ _ (found _ _ _ _ _ _ (sym c.in_ok-n.ensures.ok_part ∙ c.read.ensures)) c.if-o-at.true

pub returns-then-n-gt-BLOCK : goal.returns-then-n-gt-BLOCK
returns-then-n-gt-BLOCK c =
    block-long _ _ _ _ _ _ (found _ _ _ _ _ _ (sym c.in_ok-n.ensures.ok_part ∙ c.read.ensures)) c.if-o-at.false c.if-n-gt-BLOCK.true

pub overflow_add-result : goal.overflow_add-result
overflow_add-result c =
    let f = found _ _ _ _ _ _ (sym c.in_ok-n.ensures.ok_part ∙ c.read.ensures) in
    omega (arith, f.within)

pub returns : goal.returns
returns c = block-is _ _ _ _ _ _ (found _ _ _ _ _ _ (sym c.in_ok-n.ensures.ok_part ∙ c.read.ensures)) c.if-o-at.false c.if-n-gt-BLOCK.false
