use native.Mathlib.Nat.{sub-zero}
use native.Mathlib.Omega.{arith}
use Rattle.constants.specs.Maxima.{subsamples_most}
use Rattle.laws.proofs.WriteLaws.{then, wrote-length}
use Rattle.laws.proofs.LeftLaws.{left-all, left-room, left_less, left-none, left-same}
use Rattle.field_set.specs.Lawful.{count_in}
use Rattle.field_set.proofs.ValueLaws.{pairs-all, pairs-on}
use Rattle.cmaf_write_senc.proofs.SencLaws.{iv-inside, entries_next, entries-room, entries-end}
use Rattle.cmaf_write_senc.proofs.senc.put_entries.Goals as goal

pub loop-i-init : goal.loop-i-init
loop-i-init c = (omega (arith, pairs-all c.args.w.now (count_in c.args.w.now), c.requires.protectable.pairs), λ t e room. rw sub-zero (left-all _ _ _ room))

pub pairs_of-k-requires : goal.pairs_of-k-requires
pairs_of-k-requires c = (c.requires.protectable.long, omega (arith, c.requires.protectable.few, c.loop-i-test.true))

pub overflow_mul-i : goal.overflow_mul-i
overflow_mul-i c = omega (arith, iv-inside c.loop-i-test.true c.requires.protectable.few c.iv_words-ivs.ensures.1)

pub put_iv-a-requires : goal.put_iv-a-requires
put_iv-a-requires c =
    let l = c.loop-i in
    let v = c.iv_words-ivs in
    record {
      w_len = (c.requires.protectable.long, iv-inside c.loop-i-test.true c.requires.protectable.few v.ensures.1);
      i_in_bounds = omega (
        arith,
        left-room (l.invariant.1 c.args.t v.ensures.0 c.requires.w_in_bounds),
        entries-room c.args.t c.args.w.now (count_in c.args.w.now) l.i l.j c.loop-i-test.true v.ensures.0 c.pairs_of-k.ensures,
      );
    }

pub put_map-p-requires : goal.put_map-p-requires
put_map-p-requires c =
    let l = c.loop-i in
    let v = c.iv_words-ivs in
    let n = count_in c.args.w.now in
    let w = c.put_iv-a.ensures in
    let on = pairs-on c.args.w.now n l.i c.requires.protectable.long c.requires.protectable.few c.loop-i-test.true l.j subsamples_most c.pairs_of-k.ensures l.invariant.0 in record {
      w_len = (c.requires.protectable.long, omega (arith, on));
      i_in_bounds = omega (
        arith,
        left-room (l.invariant.1 c.args.t v.ensures.0 c.requires.w_in_bounds),
        wrote-length w,
        w.place,
        entries-room c.args.t c.args.w.now n l.i l.j c.loop-i-test.true v.ensures.0 c.pairs_of-k.ensures,
      );
    }

pub overflow_add-j : goal.overflow_add-j
overflow_add-j c =
    let l = c.loop-i in
    omega (
      arith,
      pairs-on c.args.w.now (count_in c.args.w.now) l.i c.requires.protectable.long c.requires.protectable.few c.loop-i-test.true l.j subsamples_most c.pairs_of-k.ensures l.invariant.0,
    )

pub loop-i-preserved : goal.loop-i-preserved
loop-i-preserved c =
    let l = c.loop-i in (
      pairs-on c.args.w.now _ l.i c.requires.protectable.long c.requires.protectable.few c.loop-i-test.true l.j subsamples_most c.pairs_of-k.ensures l.invariant.0,
      λ u e room.
          left_less (l.invariant.1 u e room) _
          (entries_next u c.args.w.now _ l.i l.j c.loop-i-test.true e c.pairs_of-k.ensures)
          (then c.put_iv-a.ensures c.put_map-p.ensures),
    )

pub shape_of-out : goal.shape_of-out
shape_of-out c = left-same (c.loop-i.invariant.1 c.args.t c.iv_words-ivs.ensures.0 c.requires.w_in_bounds)

pub returns : goal.returns
returns c = left-none (c.loop-i.invariant.1 c.args.t c.iv_words-ivs.ensures.0 c.requires.w_in_bounds) (entries-end _ _ _ _ _ c.loop-i-test.false)
