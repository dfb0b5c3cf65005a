-- `locmaf_write_tuples::tuples::number_size` meets its contract.
use native.Mathlib.Omega.{arith}
use Rattle.wire.proofs.SizeLaws.{size-eight}
use Rattle.locmaf_write_tuples.proofs.TupleLaws.{weighed-out, weighed-no-number, weighed-number}
use mathlib.Core.Path.{ap}
use mathlib.Core.Bool.{not}
use Rattle.locmaf_write_tuples.proofs.tuples.number_size.Goals as goal

pub returns-then-not-stands : goal.returns-then-not-stands
returns-then-not-stands c = weighed-out _ _ _ _ (ap not c.if-not-stands.true)

pub returns-in_default : goal.returns-in_default
returns-in_default c = weighed-no-number _ _ _ c.in_default.is _ _ (ap not c.if-not-stands.false)

pub overflow_add-result : goal.overflow_add-result
overflow_add-result c =
    let a = c.args in
    omega (arith, c.size-2.ensures, c.size.ensures, size-eight a.form a.id, size-eight a.form c.in-Some.z)

pub returns : goal.returns
returns c =
    let a = c.args in
    weighed-number a.id a.c _ c.in-Some.is a.form a.stands (ap not c.if-not-stands.false) c.requires.0 c.requires.1
    (omega (arith, c.size-2.ensures, c.size.ensures))
