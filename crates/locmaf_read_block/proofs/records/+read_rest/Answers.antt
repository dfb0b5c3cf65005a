-- `locmaf_read_block::records::read_rest` meets its contract, whatever the budget: one record off the front, and the rest, whose length falls. Assumes nothing.
use native.Mathlib.Omega.{arith}
use mathlib.Core.Path.{sym}
use lib.ListN.{length-drop}
use borrow.Author.Rules.{part_to_end}
use Rattle.wire.specs.Form.{rows}
use Rattle.locmaf_read_block.proofs.RecordSpans.{RecordSpans, record-spans}
use Rattle.locmaf_read_block.proofs.KeptLaws.{list-none, list-cut, list-more}
use Rattle.locmaf_read_block.proofs.ListLoop.{rest-lent}
use Rattle.locmaf_read_block.proofs.records.+read_rest.Goals as goal

pub returns-then-s-eq0 : goal.returns-then-s-eq0
returns-then-s-eq0 t c =
    let a = c.args in
    list-none (rows a.form) a.base a.n a.s.now a.out.now c.if-s-eq0.true

pub returns-in_err-r : goal.returns-in_err-r
returns-in_err-r t c =
    let a = c.args in
    rw c.from_residual.ensures
    (list-cut (rows a.form) a.base a.n a.s.now a.out.now c.if-s-eq0.false (sym c.in_err-r.ensures))

-- where the record lies
pub slice_bounds-read_rest-count : goal.slice_bounds-read_rest-count
slice_bounds-read_rest-count t c = (record-spans _ _ _ _ _ (sym c.in_ok-r.ensures)).within

pub slice_bounds-read_rest-start : goal.slice_bounds-read_rest-start
slice_bounds-read_rest-start t c = (record-spans _ _ _ _ _ (sym c.in_ok-r.ensures)).within

pub overflow_add-base : goal.overflow_add-base
overflow_add-base t c =
    let z : RecordSpans c.args.base c.args.s.now c.in_ok-r.r c.in_ok-r.k = record-spans _ _ _ _ _ (sym c.in_ok-r.ensures) in
    omega (arith, z.within, c.requires.places)

pub read_rest-requires : goal.read_rest-requires
read_rest-requires t c =
    let e = sym c.in_ok-r.ensures in
    let z = record-spans _ _ _ _ _ e in
    let l = length-drop c.in_ok-r.k c.args.s.now in
    rw part_to_end (omega (arith, c.decreases), rest-lent _ c.requires e c.keep.auto.out)

pub returns : goal.returns
returns t c =
    let a = c.args in
    list-more (rows a.form) a.base a.n a.s.now a.out.now _ _ _ _ (sym c.in_ok-r.ensures)
    (rw (part_to_end, c.keep.ensures) at c.read_rest.ensures)
