use Prim.Native.Nat.{◌-◌}
use mathlib.Core.Path.{refl}
use Rattle.field_set.proofs.LawfulLaws.{tested-not}
use Rattle.field_set.proofs.RegionLaws.{scan-start, scan-tested, scan-inside, scan-shape, scan-free, scan-full, scan-stands}
use borrow.Author.Rules.{rules}
use Rattle.field_set.proofs.lawful.regions_ok.Goals as goal
use Rattle.field_set.proofs.lawful.regions_ok.Goals.{then-mark-ne0+else-l-used, else-mark-ne0}

pub loop-i-init : goal.loop-i-init
loop-i-init c = let p = c.requires in scan-start _ _ p.w_len p.small _ c.listed-d.ensures

pub offset_bounds-w-place_at : goal.offset_bounds-w-place_at
offset_bounds-w-place_at c = let k = scan-inside _ _ _ _ _ _ c.loop-i.invariant c.loop-i-test.true _ c.place_at.ensures in search rules

pub bounds-w-place_at : goal.bounds-w-place_at
bounds-w-place_at c = scan-inside _ _ _ _ _ _ c.loop-i.invariant c.loop-i-test.true _ c.place_at.ensures

pub returns-then-l-used : goal.returns-then-l-used
returns-then-l-used c =
    tested-not c.unlawful.ensures
    (scan-full _ _ _ _ _ _ c.loop-i.invariant c.loop-i-test.true _ c.place_at.ensures _ c.line_at-l.ensures c.if-mark-ne0.true _ c.length_of-used.ensures c.if-l-used.true)

pub bits-rest-requires : goal.bits-rest-requires
bits-rest-requires c = let k = (scan-shape _ _ _ _ _ _ c.loop-i.invariant c.loop-i-test.true _ c.place_at.ensures _ c.line_at-l.ensures).inside in search rules

pub overflow_add-free : goal.overflow_add-free
overflow_add-free c = let k = (scan-shape _ _ _ _ _ _ c.loop-i.invariant c.loop-i-test.true _ c.place_at.ensures _ c.line_at-l.ensures).inside in search rules

pub overflow_add-free-then-mark-ne0 : goal.overflow_add-free-then-mark-ne0
overflow_add-free-then-mark-ne0 c = let k = (scan-shape _ _ _ _ _ _ c.loop-i.invariant c.loop-i-test.true _ c.place_at.ensures _ c.line_at-l.ensures).inside in search rules

pub overflow_add-place : goal.overflow_add-place
overflow_add-place c = let k = (scan-shape _ _ _ _ _ _ c.loop-i.invariant c.loop-i-test.true _ c.place_at.ensures _ c.line_at-l.ensures).inside in search rules

pub within-requires : goal.within-requires
within-requires c = let k = (scan-shape _ _ _ _ _ _ c.loop-i.invariant c.loop-i-test.true _ c.place_at.ensures _ c.line_at-l.ensures).inside in search rules

pub loop-i-preserved : goal.loop-i-preserved
loop-i-preserved c =
    let l = c.loop-i in
    let lt = c.loop-i-test.true in
    let at = c.place_at.ensures in
    elim c.if-mark-ne0.branch [
      | then-mark-ne0+else-l-used w ↦
          rw (w.ok-is, w.rest-is, w.free-is)
          (scan-stands _ _ _ _ _ _ l.invariant lt _ at _ w.line_at-l.ensures w.if-mark-ne0.true _ w.length_of-used.ensures _ w.within.ensures
          w.if-l-used.false _ w.bits-rest.ensures)
      | else-mark-ne0 w ↦ rw (w.ok-is, w.rest-is, w.free-is) (scan-free _ _ _ _ _ _ l.invariant lt _ at _ refl w.if-mark-ne0.false)
    ]

pub returns : goal.returns
returns c = scan-tested _ _ _ _ _ _ c.loop-i.invariant c.loop-i-test.false _ c.bits.ensures _ c.listed-d.ensures
