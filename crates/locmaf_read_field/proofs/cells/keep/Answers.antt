-- `locmaf_read_field::cells::keep` meets its contract, by the laws of `proofs/TakeLaws.antt`.
use Rattle.locmaf_read_field.proofs.CellLaws.{taken-always}
use Rattle.locmaf_read_field.proofs.TakeLaws.{kept-none, kept_on}
use mathlib.Core.Path.{ap}
use mathlib.Core.Bool.{not}
use Rattle.locmaf_read_field.proofs.cells.keep.Goals as goal

pub returns-then-not-stood : goal.returns-then-not-stood
returns-then-not-stood c =
    let a = c.args in
    taken-always (kept-none a.stood a.r.now a.was a.l a.m (ap not c.if-not-stood.true) c.well.ensures)

pub shape_of-x : goal.shape_of-x
shape_of-x c = c.carry.ensures.long

pub returns : goal.returns
returns c =
    let a = c.args in
    kept_on a.stood a.r.now a.was a.l a.m (ap not c.if-not-stood.false) _ _ c.length_of.ensures c.length_of-2.ensures c.carry.ensures
