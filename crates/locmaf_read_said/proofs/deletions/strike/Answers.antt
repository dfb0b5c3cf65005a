-- `locmaf_read_said::deletions::strike` meets its contract, by the laws of `proofs/DeletionLaws.antt`.
use native.Mathlib.Omega.{arith}
use Rattle.locmaf_read_said.proofs.DeletionLaws.{no_line, has-line, line-inside, struck-unknown, struck-not, struck}
use Rattle.locmaf_read_said.proofs.deletions.strike.Goals as goal

pub returns-then-i-eq-LINES : goal.returns-then-i-eq-LINES
returns-then-i-eq-LINES c = struck-unknown _ _ _ _ (no_line _ _ c.number_of-i.ensures c.if-i-eq-LINES.true)

pub offset_bounds-r-place : goal.offset_bounds-r-place
offset_bounds-r-place c =
    omega (arith, line-inside _ _ _ (has-line _ _ c.number_of-i.ensures c.if-i-eq-LINES.false) c.line_at-place.ensures)

pub bounds-r-place : goal.bounds-r-place
bounds-r-place c =
    omega (arith, line-inside _ _ _ (has-line _ _ c.number_of-i.ensures c.if-i-eq-LINES.false) c.line_at-place.ensures)

pub overflow_mul-k : goal.overflow_mul-k
overflow_mul-k c = omega (arith, (has-line _ _ c.number_of-i.ensures c.if-i-eq-LINES.false).small)

pub offset_bounds-index-k : goal.offset_bounds-index-k
offset_bounds-index-k c = omega (arith, (has-line _ _ c.number_of-i.ensures c.if-i-eq-LINES.false).small)

pub bounds-index-k : goal.bounds-index-k
bounds-index-k c = omega (arith, (has-line _ _ c.number_of-i.ensures c.if-i-eq-LINES.false).small)

pub offset_bounds-gone-k : goal.offset_bounds-gone-k
offset_bounds-gone-k c = omega (arith, (has-line _ _ c.number_of-i.ensures c.if-i-eq-LINES.false).small)

pub bounds-gone-k : goal.bounds-gone-k
bounds-gone-k c = omega (arith, (has-line _ _ c.number_of-i.ensures c.if-i-eq-LINES.false).small)

pub returns-then-r-place : goal.returns-then-r-place
returns-then-r-place c =
    struck-not _ _ _ _ _ _ (has-line _ _ c.number_of-i.ensures c.if-i-eq-LINES.false) c.line_at-place.ensures c.if-r-place.true

pub offset_bounds-gone-k-2 : goal.offset_bounds-gone-k-2
offset_bounds-gone-k-2 c = omega (arith, (has-line _ _ c.number_of-i.ensures c.if-i-eq-LINES.false).small)

pub bounds-gone-k-2 : goal.bounds-gone-k-2
bounds-gone-k-2 c = omega (arith, (has-line _ _ c.number_of-i.ensures c.if-i-eq-LINES.false).small)

pub returns : goal.returns
returns c = struck _ _ _ _ _ _ (has-line _ _ c.number_of-i.ensures c.if-i-eq-LINES.false) c.line_at-place.ensures c.if-r-place.false
