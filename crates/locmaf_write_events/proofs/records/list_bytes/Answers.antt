use native.Mathlib.Omega.{arith}
use mathlib.Core.Path.{◌∙◌}
use borrow.Author.Rules.{rules}
use Rattle.locmaf_write_events.proofs.LentLaws.{lent-bytes, lent-words}
use Rattle.locmaf_write_events.proofs.SumLoop.{adding-none, adding-next, adding-end}
use Rattle.locmaf_write_events.proofs.records.list_bytes.Goals as goal

pub loop-i-init : goal.loop-i-init
loop-i-init c = adding-none _ _ _ _ _

pub overflow_mul-p : goal.overflow_mul-p
overflow_mul-p c = let e = (c.requires.each _ c.loop-i-test.true).there in search rules

pub overflow_add-p : goal.overflow_add-p
overflow_add-p c = let e = (c.requires.each _ c.loop-i-test.true).there in search rules

pub offset_bounds-events-p : goal.offset_bounds-events-p
offset_bounds-events-p c = let e = (c.requires.each _ c.loop-i-test.true).there in search rules

pub slice_bounds-record_bytes-start : goal.slice_bounds-record_bytes-start
slice_bounds-record_bytes-start c = let e = (c.requires.each _ c.loop-i-test.true).there in search rules

pub slice_bounds-record_bytes-end : goal.slice_bounds-record_bytes-end
slice_bounds-record_bytes-end c = let e = (c.requires.each _ c.loop-i-test.true).there in search rules

pub record_bytes-sum-requires : goal.record_bytes-sum-requires
record_bytes-sum-requires c = let e = c.requires.each _ c.loop-i-test.true in lent-words _ _ e.there e

pub overflow_add-sum : goal.overflow_add-sum
overflow_add-sum c =
    omega (
      arith,
      c.loop-i.invariant.small,
      c.requires.few,
      c.loop-i-test.true,
      c.record_bytes-sum.ensures.1,
    )

pub loop-i-preserved : goal.loop-i-preserved
loop-i-preserved c =
    let e = c.requires.each _ c.loop-i-test.true in
    adding-next _ _ _ _ _ _ _ c.loop-i.invariant _ c.loop-i-test.true (c.record_bytes-sum.ensures.0 ∙ lent-bytes _ _ e.there _ _ _)
    c.record_bytes-sum.ensures.1

pub returns : goal.returns
returns c = adding-end _ _ _ _ _ _ _ c.loop-i.invariant c.loop-i-test.false
