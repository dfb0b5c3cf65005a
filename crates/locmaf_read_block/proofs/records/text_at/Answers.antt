-- `locmaf_read_block::records::text_at` meets its contract, by the laws of `proofs/RecordLaws.antt`.
use native.Mathlib.Omega.{arith}
use Rattle.locmaf_read_block.proofs.ReadLaws.{found}
use Rattle.locmaf_read_block.proofs.RecordLaws.{text-none, text-long, text-is}
use Rattle.locmaf_read_block.proofs.records.text_at.Goals as goal

pub returns-in_err-n : goal.returns-in_err-n
returns-in_err-n c = rw c.from_residual.ensures (text-none _ _ _ _ c.in_err-n.ensures)

pub overflow_sub-s : goal.overflow_sub-s
overflow_sub-s c = (found _ _ _ _ _ _ c.in_ok-n.ensures).within

pub returns-then-s-p : goal.returns-then-s-p
returns-then-s-p c = text-long _ _ _ _ _ _ (found _ _ _ _ _ _ c.in_ok-n.ensures) c.if-s-p.true

pub overflow_add-result : goal.overflow_add-result
overflow_add-result c = let f = found _ _ _ _ _ _ c.in_ok-n.ensures in omega (arith, f.within, c.requires)

pub overflow_add-result-2 : goal.overflow_add-result-2
overflow_add-result-2 c = let f = found _ _ _ _ _ _ c.in_ok-n.ensures in omega (arith, f.some, f.within, c.requires)

pub returns : goal.returns
returns c = text-is _ _ _ _ _ _ (found _ _ _ _ _ _ c.in_ok-n.ensures) c.if-s-p.false
