-- `cmaf_write_saiz::saiz::put_saiz` meets its contract, by the laws `saiz-same` and `saiz-other`.
use native.Mathlib.Omega.{arith}
use Rattle.laws.specs.Bytes.{be}
use Rattle.laws.proofs.WriteLaws.{then, wrote_as, wrote-length}
use Rattle.boxes.specs.Box.{words}
use Rattle.field_set.specs.Lawful.{count_in}
use Rattle.cmaf_write_saiz.proofs.SaizLaws.{saiz-length-same, saiz-length-other, saiz-same, saiz-other, sizes-length}
use Rattle.cmaf_write_saiz.proofs.saiz.put_saiz.Goals as goal

pub put_saiz_head-requires : goal.put_saiz_head-requires
put_saiz_head-requires c = omega (arith, c.requires.w_in_bounds, saiz-length-same c.args.t c.args.w.now c.info_size-size.ensures.0 c.all_sized.ensures c.if-all_sized.true)

pub returns-then-all_sized : goal.returns-then-all_sized
returns-then-all_sized c =
    let v = c.info_size-size in
    wrote_as (saiz-same _ _ v.ensures.0 c.all_sized.ensures c.if-all_sized.true v.ensures.1) c.put_saiz_head.ensures

pub put_saiz_head-a-requires : goal.put_saiz_head-a-requires
put_saiz_head-a-requires c = omega (arith, c.requires.w_in_bounds, saiz-length-other c.args.t c.args.w.now c.info_size-size.ensures.0 c.all_sized.ensures c.if-all_sized.false)

pub put_sizes-requires : goal.put_sizes-requires
unfolding be words
put_sizes-requires c =
    let w = c.put_saiz_head-a.ensures in record {
      protectable = c.requires.protectable;
      w_in_bounds = omega (
        arith,
        c.requires.w_in_bounds,
        wrote-length w,
        w.place,
        sizes-length c.args.t c.args.w.now (count_in c.args.w.now) 0,
        saiz-length-other c.args.t c.args.w.now c.info_size-size.ensures.0 c.all_sized.ensures c.if-all_sized.false,
      );
    }

pub returns : goal.returns
returns c =
    wrote_as
    (saiz-other _ _ c.info_size-size.ensures.0 c.all_sized.ensures c.if-all_sized.false)
    (then c.put_saiz_head-a.ensures c.put_sizes.ensures)
