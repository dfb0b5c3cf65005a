-- `wire::varint::put_two` meets its contract, by the laws of `proofs/ShortLaws.antt`.
use native.Mathlib.Omega.{arith}
use lib.ListN.{length-set}
use Rattle.wire.specs.Form.{rows}
use Rattle.wire.proofs.FormLaws.{lawful}
use Rattle.wire.proofs.ShortLaws.{short-bytes, room-two, wrote-two}
use Rattle.wire.proofs.varint.put_two.Goals as goal

pub overflow_add-out : goal.overflow_add-out
overflow_add-out c =
    let a = c.args in
    omega (arith, room-two (rows a.form) (lawful a.form) a.v a.out.now a.at c.requires.v_in_bounds c.requires.form_bound.0 c.requires.form_bound.1)

pub bounds-out-at : goal.bounds-out-at
bounds-out-at c =
    let a = c.args in
    omega (arith, room-two (rows a.form) (lawful a.form) a.v a.out.now a.at c.requires.v_in_bounds c.requires.form_bound.0 c.requires.form_bound.1)

pub overflow_cast-out-2 : goal.overflow_cast-out-2
overflow_cast-out-2 c = omega (arith, c.requires.form_bound.1, c.ones.ensures, short-bytes (rows c.args.form) (lawful c.args.form))

pub overflow_add-out-2 : goal.overflow_add-out-2
overflow_add-out-2 c = omega (arith, c.requires.form_bound.1, c.ones.ensures, short-bytes (rows c.args.form) (lawful c.args.form))

pub bounds-out-at-2 : goal.bounds-out-at-2
bounds-out-at-2 c =
    let a = c.args in
    simp length-set
    (omega (arith, room-two (rows a.form) (lawful a.form) a.v a.out.now a.at c.requires.v_in_bounds c.requires.form_bound.0 c.requires.form_bound.1))

pub overflow_add-result : goal.overflow_add-result
overflow_add-result c =
    let a = c.args in
    omega (arith, room-two (rows a.form) (lawful a.form) a.v a.out.now a.at c.requires.v_in_bounds c.requires.form_bound.0 c.requires.form_bound.1)

pub returns : goal.returns
returns c =
    let a = c.args in
    rw c.ones.ensures
    (wrote-two (rows a.form) (lawful a.form) a.v a.out.now a.at c.requires.v_in_bounds c.requires.form_bound.0 c.requires.form_bound.1)
