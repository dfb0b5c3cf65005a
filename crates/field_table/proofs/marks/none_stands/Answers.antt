use Prim.Native.Nat.{◌-◌}
use native.Mathlib.Omega.{arith}
use Rattle.field_table.specs.Lines.{marks_of}
use Rattle.field_table.proofs.LineLaws.{place-of, shaped}
use Rattle.field_table.proofs.NoneLaws.{gather-start, gather-next, gather-end}
use Rattle.field_table.proofs.marks.none_stands.Goals as goal

pub loop-i-init : goal.loop-i-init
loop-i-init c = gather-start _

pub offset_bounds-w-place_at : goal.offset_bounds-w-place_at
offset_bounds-w-place_at c = let k = c.loop-i-test.true in omega (arith, c.place_at.ensures, place-of _ k, (shaped _ k).inside)

pub bounds-w-place_at : goal.bounds-w-place_at
bounds-w-place_at c =
    let k = c.loop-i-test.true in
    omega (arith, c.place_at.ensures, place-of _ k, (shaped _ k).inside, c.requires)

pub loop-i-preserved : goal.loop-i-preserved
loop-i-preserved c =
    let k = c.loop-i-test.true in
    gather-next _ _ _ c.loop-i.invariant k _ (rw (c.place_at.ensures, place-of _ k))

pub returns : goal.returns
unfolding marks_of
returns c = gather-end _ _ _ c.loop-i.invariant c.loop-i-test.false
