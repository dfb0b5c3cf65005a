-- `cmaf_read_set::entries::put_marks` meets its contract, by the laws of `proofs/MarkLaws.antt`.
use native.Mathlib.Omega.{arith}
use mathlib.Core.Path.{◌≡◌, ◌∙◌, ap}
use lib.ListN.{length, length-set}
use Rattle.cmaf_read_set.proofs.MarkLaws.{iv_mark, mark-yes, mark-no, mark-length, marks-map, marks-plain, marks-length}
use Rattle.cmaf_read_set.proofs.entries.put_marks.Goals as goal
use Rattle.cmaf_read_set.proofs.entries.put_marks.Goals.{then-e-ne0, else-e-ne0}

-- the mark of the IVs is made, where there are any
marked : (c : goal.Then-e) → c.if-e-ne0.x ≡ iv_mark c.args.e c.args.x.now
marked c = elim c.if-e-ne0.branch [ then-e-ne0 w ↦ mark-yes _ _ w.if-e-ne0.true w.x-is | else-e-ne0 w ↦ mark-no _ _ w.if-e-ne0.false w.x-is ]

-- the mark of the IVs is made, where there are any
marked-2 : (c : goal.Else-e) → c.if-e-ne0.x ≡ iv_mark c.args.e c.args.x.now
marked-2 c = elim c.if-e-ne0.branch [ then-e-ne0 w ↦ mark-yes _ _ w.if-e-ne0.true w.x-is | else-e-ne0 w ↦ mark-no _ _ w.if-e-ne0.false w.x-is ]

kept : (c : goal.Then-e) → length c.if-e-ne0.x ≡ length c.args.x.now
kept c = ap length (marked c) ∙ mark-length c.args.e c.args.x.now

kept-2 : (c : goal.Else-e) → length c.if-e-ne0.x ≡ length c.args.x.now
kept-2 c = ap length (marked-2 c) ∙ mark-length c.args.e c.args.x.now

pub bounds-x-398 : goal.bounds-x-398
bounds-x-398 c = omega (arith, kept c, c.requires)

pub bounds-x-465 : goal.bounds-x-465
bounds-x-465 c = simp length-set (omega (arith, kept c, c.requires))

pub bounds-x-722 : goal.bounds-x-722
bounds-x-722 c = simp length-set (omega (arith, kept c, c.requires))

pub shape_of-x-then-e : goal.shape_of-x-then-e
shape_of-x-then-e c =
    let a = c.args in
    ap length (marks-map _ _ c.if-e.true (marked c)) ∙ marks-length a.e a.x.now

pub returns-then-e : goal.returns-then-e
returns-then-e c = marks-map _ _ c.if-e.true (marked c)

pub shape_of-x-else-e : goal.shape_of-x-else-e
shape_of-x-else-e c = kept-2 c

pub returns-else-e : goal.returns-else-e
returns-else-e c = marks-plain _ _ c.if-e.false (marked-2 c)
