-- `locmaf_read_block::tuples::tuple_at` meets its contract, by the laws of `proofs/TupleLaws.antt`.
use native.Mathlib.Omega.{arith}
use Rattle.locmaf_read_block.proofs.ReadLaws.{found}
use Rattle.locmaf_read_block.proofs.TupleLaws.{no-id, no_body, even, long, odd}
use Rattle.locmaf_read_block.proofs.tuples.tuple_at.Goals as goal

pub returns-in_err-id : goal.returns-in_err-id
returns-in_err-id c = rw c.from_residual.ensures (no-id _ _ _ _ c.in_err-id.ensures)

pub returns-in_err-n : goal.returns-in_err-n
returns-in_err-n c =
    rw c.from_residual-in_err-n.ensures
    (no_body _ _ _ _ _ _ (found _ _ _ _ _ _ c.in_ok-id.ensures) c.in_err-n.ensures)

pub overflow_sub-q : goal.overflow_sub-q
overflow_sub-q c = let f = found _ _ _ _ _ _ c.in_ok-n.ensures in omega (arith, f.some)

pub returns-then-id-eq0 : goal.returns-then-id-eq0
returns-then-id-eq0 c =
    rw c.kind_of-scalar.ensures
    (even _ _ _ _ _ _ (found _ _ _ _ _ _ c.in_ok-id.ensures) _ _ (found _ _ _ _ _ _ c.in_ok-n.ensures) c.if-id-eq0.true)

pub overflow_sub-end : goal.overflow_sub-end
overflow_sub-end c = (found _ _ _ _ _ _ c.in_ok-n.ensures).within

pub returns-then-end-q : goal.returns-then-end-q
returns-then-end-q c =
    long _ _ _ _ _ _ (found _ _ _ _ _ _ c.in_ok-id.ensures) _ _ (found _ _ _ _ _ _ c.in_ok-n.ensures) c.if-id-eq0.false
    c.if-end-q.true

pub overflow_add-result : goal.overflow_add-result
overflow_add-result c = let f = found _ _ _ _ _ _ c.in_ok-n.ensures in omega (arith, f.within)

pub returns : goal.returns
returns c =
    rw c.kind_of-held.ensures
    (odd _ _ _ _ _ _ (found _ _ _ _ _ _ c.in_ok-id.ensures) _ _ (found _ _ _ _ _ _ c.in_ok-n.ensures) c.if-id-eq0.false
    c.if-end-q.false)
