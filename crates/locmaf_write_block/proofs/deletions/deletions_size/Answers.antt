-- `locmaf_write_block::deletions::deletions_size` meets its contract: nothing, or a list of the ids.
use native.Mathlib.Omega.{arith}
use Rattle.locmaf_write_tuples.proofs.ItemLaws.{weighed-nothing, weighed-as, weighed-within}
use Rattle.locmaf_write_block.proofs.GoneLaws.{gone-many, none-gone, some-gone}
use Rattle.locmaf_write_block.proofs.deletions.deletions_size.Goals as goal

pub returns-then-n-eq0 : goal.returns-then-n-eq0
returns-then-n-eq0 c =
    λ t.
    weighed-as (none-gone t _ _ _ _ _ _ (c.deleted-n.ensures.all t).0 c.if-n-eq0.true)
    weighed-nothing

pub slice_bounds-run_size-end : goal.slice_bounds-run_size-end
slice_bounds-run_size-end c = gone-many c.deleted-n.ensures

pub run_size-requires : goal.run_size-requires
run_size-requires c =
    let e = c.deleted-n.ensures in
    let many = gone-many e in
    (omega arith, omega (arith, e.few, many))

pub returns : goal.returns
returns c =
    let e = c.deleted-n.ensures in
    let many = gone-many e in
    λ t. weighed-as (some-gone _ _ _ _ _ _ _ (e.all t).0 c.if-n-eq0.false _ (e.all t).1) (weighed-within (omega (arith, e.few, many)) c.run_size.ensures)
