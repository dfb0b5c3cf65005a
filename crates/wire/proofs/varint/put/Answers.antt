-- `wire::varint::put` meets its contract: one byte by the laws of `proofs/ShortLaws.antt`, the others by their functions.
use native.Mathlib.Omega.{arith}
use Rattle.wire.specs.Form.{rows}
use Rattle.wire.proofs.FormLaws.{lawful}
use Rattle.wire.proofs.ShortLaws.{short-bytes, room-one, wrote_one}
use Rattle.wire.proofs.varint.put.Goals as goal

pub overflow_cast-out : goal.overflow_cast-out
overflow_cast-out c = omega (arith, c.if-v-ones.true, c.ones.ensures, short-bytes (rows c.args.form) (lawful c.args.form))

pub bounds-out-at : goal.bounds-out-at
bounds-out-at c =
    let a = c.args in
    room-one (rows a.form) (lawful a.form) a.v a.out.now a.at c.requires (omega (arith, c.if-v-ones.true, c.ones.ensures))

pub returns-then-v-ones : goal.returns-then-v-ones
returns-then-v-ones c =
    let a = c.args in
    wrote_one (rows a.form) (lawful a.form) a.v a.out.now a.at c.requires (omega (arith, c.if-v-ones.true, c.ones.ensures))

pub overflow_mul-twos : goal.overflow_mul-twos
overflow_mul-twos c =
    let a = c.args in
    omega (arith, c.twos.ensures, short-bytes (rows a.form) (lawful a.form))

pub put_two-requires : goal.put_two-requires
put_two-requires c = record { form_bound = (omega (arith, c.if-v-ones.false, c.ones.ensures), omega (arith, c.if-v-twos.true, c.twos.ensures)); v_in_bounds = c.requires }
