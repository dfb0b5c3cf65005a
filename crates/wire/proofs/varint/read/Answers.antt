-- `wire::varint::read` meets its contract: what is no varint and one byte by the laws, the others by their functions.
use native.Mathlib.Omega.{arith}
use Rattle.wire.specs.Form.{rows}
use Rattle.wire.proofs.FormLaws.{lawful}
use Rattle.wire.proofs.Reading.{outside, empty}
use Rattle.wire.proofs.ShortLaws.{short-bytes, read_one}
use Rattle.wire.proofs.varint.read.Goals as goal

pub returns-then-s-end : goal.returns-then-s-end
returns-then-s-end c = let a = c.args in outside (rows a.form) a.s.now a.at _ c.if-s-end.true

pub returns-then-end-at : goal.returns-then-end-at
returns-then-end-at c = let a = c.args in empty (rows a.form) a.s.now _ _ c.if-s-end.false c.if-end-at.true

pub returns-then-b-ones : goal.returns-then-b-ones
returns-then-b-ones c =
    let a = c.args in
    read_one (rows a.form) (lawful a.form) a.s.now a.at a.end _
    (record { before = c.if-end-at.false; inside = c.if-s-end.false; first = c.wide-b.ensures })
    (omega (arith, c.if-b-ones.true, c.ones-ones.ensures))

pub overflow_add-ones : goal.overflow_add-ones
overflow_add-ones c =
    let a = c.args in
    omega (arith, short-bytes (rows a.form) (lawful a.form), c.twos.ensures, c.ones-ones.ensures)

pub two_at-requires : goal.two_at-requires
two_at-requires c = record { begins = record { before = c.if-end-at.false; inside = c.if-s-end.false; first = c.wide-b.ensures }; form_bound = (omega (arith, c.if-b-ones.false, c.ones-ones.ensures), omega (arith, c.if-b-ones-2.true, c.twos.ensures, c.ones-ones.ensures)) }

pub more_at-requires : goal.more_at-requires
more_at-requires c = record { before = c.if-end-at.false; inside = c.if-s-end.false; first = c.wide-b.ensures }
