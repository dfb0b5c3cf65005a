use native.Mathlib.Numerals.{add-one}
use native.Mathlib.Omega.{arith}
use Rattle.field_set.specs.Lawful.{count_in}
use Rattle.field_set.proofs.ValueLaws.{pairs-all, pairs_end, pairs_next}
use Rattle.cmaf_write_senc.proofs.senc.pairs.Goals as goal

pub loop-i-init : goal.loop-i-init
loop-i-init c = (omega arith, omega arith)

pub pairs_of-sum-requires : goal.pairs_of-sum-requires
pairs_of-sum-requires c = (c.requires.w_len.0, omega (arith, c.requires.w_len.1, c.loop-i-test.true))

pub overflow_add-sum : goal.overflow_add-sum
overflow_add-sum c =
    let w = c.args.w.now in
    omega (
      arith,
      c.requires.w_bound,
      pairs-all w (count_in w),
      pairs_next w (count_in w) c.loop-i.i c.requires.w_len.0 c.requires.w_len.1 c.loop-i-test.true,
    )

pub loop-i-preserved : goal.loop-i-preserved
loop-i-preserved c =
    let l = c.loop-i in
    (omega arith, rw (add-one l.i) (omega (arith, pairs_next c.args.w.now _ l.i c.requires.w_len.0 c.requires.w_len.1 c.loop-i-test.true)))

pub returns : goal.returns
returns c =
    let a = c.args in
    let l = c.loop-i in
    omega (arith, pairs-all a.w.now (count_in a.w.now), pairs_end a.w.now (count_in a.w.now) l.i c.loop-i-test.false)
