use native.Mathlib.Omega.{arith}
use Rattle.locmaf_read_set.proofs.ClearLaws.{all-fit}
use Rattle.locmaf_read_set.proofs.StandingLaws.{marks-count, unmarked}
use Rattle.locmaf_read_set.proofs.TakingLaws.{taking-start, taking-end, taking-as, here, enough, taking-next, taking-skip}
use Rattle.locmaf_read_set.proofs.read.take_lines.Goals as goal
use Rattle.locmaf_read_set.proofs.read.take_lines.Goals.{then-marks-i-ne0, else-marks-i-ne0}

pub loop-i-init : goal.loop-i-init
loop-i-init c = let p = c.requires in taking-start _ _ _ _ p.measured.1 p.measured.2 p.measured.3 (all-fit _ _ _ p.readable.words p.readable.lawful _ _ p.measured.0)

pub bounds-marks-i : goal.bounds-marks-i
bounds-marks-i c =
    let p = c.requires in
    omega (arith, here _ _ _ _ _ _ _ _ _ c.loop-i.invariant c.loop-i-test.true, marks-count _ _ _ _ _ p.marks_value)

pub take_line-c-requires : goal.take_line-c-requires
take_line-c-requires c =
    let p = c.requires in
    let h = c.loop-i.invariant in
    let lt = c.loop-i-test.true in
    record { readable = p.readable; measured = (p.measured.0, here _ _ _ _ _ _ _ _ _ h lt, enough _ _ _ _ _ _ _ _ _ h lt) }

pub loop-i-preserved : goal.loop-i-preserved
loop-i-preserved c =
    let p = c.requires in
    let h = c.loop-i.invariant in
    let lt = c.loop-i-test.true in
    elim c.if-marks-i-ne0.branch [
      | then-marks-i-ne0 w ↦ taking-as _ _ _ _ (taking-next _ _ _ _ _ _ _ _ _ h lt _ _ w.take_line-c.ensures) w.x-is w.first-is w.second-is w.within-is
      | else-marks-i-ne0 w ↦
          taking-as _ _ _ _
          (taking-skip _ _ _ _ _ _ _ _ _ h lt (unmarked _ _ _ _ _ _ _ p.readable _ p.marks_value _ (here _ _ _ _ _ _ _ _ _ h lt) w.if-marks-i-ne0.false _ _))
          w.x-is w.first-is w.second-is w.within-is
    ]

pub shape_of-x : goal.shape_of-x
shape_of-x c = c.loop-i.invariant.long

pub returns : goal.returns
returns c = taking-end _ _ _ _ _ _ _ _ _ c.loop-i.invariant c.loop-i-test.false
