-- `counters::protected::told_size` meets its contract, case by case.
use native.Mathlib.Omega.{arith}
use Rattle.field_table.specs.Lines.{lines, line_for}
use Rattle.field_set.proofs.ValueLaws.{has_no, has-yes}
use Rattle.told_sizes.proofs.SumLaws.{size_small}
use Rattle.counters.proofs.ProtectedLaws.{listed_small, size-listed, size-default, size-trex}
use Rattle.counters.proofs.protected.told_size.Goals as goal

pub returns-then-w-ne0 : goal.returns-then-w-ne0
unfolding lines line_for
returns-then-w-ne0 c =
    let a = c.args in (
      λ payload. size-listed a.t a.w.now payload a.i c.requires.1 (has-yes 1 _ c.if-w-ne0.true),
      listed_small c.requires.0 a.i c.requires.1,
    )

pub returns-then-w-ne0-2 : goal.returns-then-w-ne0-2
unfolding lines line_for
returns-then-w-ne0-2 c =
    let a = c.args in
    let unlisted = has_no 1 a.w.now c.if-w-ne0.false in (
      λ payload. size-default a.t a.w.now payload a.i c.requires.1 unlisted (has-yes 6 _ c.if-w-ne0-2.true),
      omega (arith, size_small c.requires.0),
    )

pub returns : goal.returns
unfolding lines line_for
returns c =
    let a = c.args in
    let unlisted = has_no 1 a.w.now c.if-w-ne0.false in (
      λ payload. size-trex a.t a.w.now payload a.i c.requires.1 unlisted (has_no 6 _ c.if-w-ne0-2.false),
      omega arith,
    )
