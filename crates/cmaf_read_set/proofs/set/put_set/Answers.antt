-- `cmaf_read_set::set::put_set` meets its contract, by the laws of `proofs/StoredLaws.antt`.
use native.Mathlib.Omega.{arith}
use mathlib.Core.Path.{sym, ◌∙◌}
use lib.ListN.{length-set}
use Rattle.cmaf_read_samples.specs.Sizes.{Sized}
use Rattle.cmaf_read_set.proofs.ReadyLaws.{rows-ready, equal_is, begun-long}
use Rattle.cmaf_read_set.proofs.StoredLaws.{set-stored}
use Rattle.field_table.proofs.LineLaws.{zeros-long}
use Rattle.cmaf_read_set.proofs.set.put_set.Goals as goal

sized : (c : goal.After-put_low-arg-1) → Sized c.args.c.now c.run_of-r.result c.args.d.size
sized c =
    let w = rows-ready c.args.t c.args.c.now c.args.f c.requires.gatherable _ c.run_of-r.ensures.0 in
    (w.0, w.1, c.requires.d_value.1.size-lt)

sized-2 : (c : goal.After-put_high-arg-1) → Sized c.args.c.now c.run_of-r.result c.args.d.size
sized-2 c =
    let w = rows-ready c.args.t c.args.c.now c.args.f c.requires.gatherable _ c.run_of-r.ensures.0 in
    (w.0, w.1, c.requires.d_value.1.size-lt)

pub all_equal-equal-requires : goal.all_equal-equal-requires
all_equal-equal-requires c =
    let w = rows-ready c.args.t c.args.c.now c.args.f c.requires.gatherable _ c.run_of-r.ensures.0 in
    (w.0, w.1, c.requires.d_value.1.size-lt)

pub bounds-x-0 : goal.bounds-x-0
bounds-x-0 c = omega (arith, zeros-long c.requires.x_value)

pub bounds-x-1 : goal.bounds-x-1
bounds-x-1 c = simp length-set (omega (arith, zeros-long c.requires.x_value))

pub put_low-requires : goal.put_low-requires
put_low-requires c = record { sized = sized c; x_len = begun-long _ _ _ c.requires.x_value }

pub put_high-requires : goal.put_high-requires
put_high-requires c = record { sized = (sized-2 c, c.requires.d_value.1.flags-lt); x_len = c.put_low.auto.x ∙ begun-long _ _ _ c.requires.x_value }

pub put_one-requires : goal.put_one-requires
put_one-requires c =
    let l = c.put_high.auto.x ∙ c.put_low.auto.x ∙ begun-long _ _ _ c.requires.x_value in
    omega (arith, l)

pub put_protection-requires : goal.put_protection-requires
put_protection-requires c = let g = c.requires.gatherable in record { inside = (g.senc-in, g.senc-ok); few_entries = (g.entries, g.iv, g.subsamples); x_len = c.put_one.auto.x ∙ c.put_high.auto.x ∙ c.put_low.auto.x ∙ begun-long _ _ _ c.requires.x_value }

pub shape_of-x : goal.shape_of-x
shape_of-x c = c.put_protection.auto.x ∙ c.put_one.auto.x ∙ c.put_high.auto.x ∙ c.put_low.auto.x ∙ begun-long _ _ _ c.requires.x_value ∙ sym (zeros-long c.requires.x_value)

pub returns : goal.returns
returns c =
    let a = c.args in
    let d = c.requires.d_value.0 in
    let r = c.run_of-r.ensures.0 in
    let e = equal_is a.t a.c.now a.f _ _ d r c.all_equal-equal.ensures in
    set-stored a.t a.c.now a.f c.requires.gatherable _ _ _ _ _ _ c.requires.x_value c.bmdt_of.ensures d r e
    c.bit.ensures.0 c.first_five-first.ensures
    c.put_low.ensures c.put_high.ensures
    c.put_one.ensures c.put_protection.ensures
