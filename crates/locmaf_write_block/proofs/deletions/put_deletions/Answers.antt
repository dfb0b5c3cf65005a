-- `locmaf_write_block::deletions::put_deletions` meets its contract: nothing, or a list of the ids.
use native.Mathlib.Omega.{arith}
use Rattle.locmaf_write_tuples.proofs.PutLaws.{put-known, put_as, put-empty}
use Rattle.locmaf_write_block.proofs.GoneLaws.{deletions-alike, gone-many, bytes-gone, some-gone}
use Rattle.locmaf_write_block.proofs.deletions.put_deletions.Goals as goal

pub returns-then-bytes-eq0 : goal.returns-then-bytes-eq0
returns-then-bytes-eq0 c =
    let n = c.requires.x_value in
    λ t. put_as _ (deletions-alike n.0 t _ _ _ _ _) (put-empty _ _ _ c.if-bytes-eq0.true n.2 n.3)

pub slice_bounds-put_run-end : goal.slice_bounds-put_run-end
slice_bounds-put_run-end c = gone-many c.deleted-n.ensures

pub put_run-requires : goal.put_run-requires
put_run-requires c =
    let n = c.requires.x_value in
    let d = c.deleted-n.ensures in
    let e = d.all n.0 in
    let some = bytes-gone _ _ _ _ _ _ _ e.0 _ n.2 c.if-bytes-eq0.false in
    let h = put-known _ (some-gone _ _ _ _ _ _ _ e.0 some _ e.1) _ _ _ n.1 n.2 n.3 in
    record {
      id_lt_id_count = (omega arith, omega (arith, d.few, gone-many d));
      value = h.0;
      bytes_value = h.1.0;
      room_for = h.1.1;
    }

pub returns : goal.returns
returns c =
    let n = c.requires.x_value in
    let d = c.deleted-n.ensures in
    let some = bytes-gone _ _ _ _ _ _ _ (d.all n.0).0 _ n.2 c.if-bytes-eq0.false in
    λ t. let e = d.all t in put_as _ (some-gone _ _ _ _ _ _ _ e.0 some _ e.1) c.put_run.ensures
