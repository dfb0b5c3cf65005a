-- `locmaf_write_block::deletions::is_deleted` meets its contract: by the marks of the field.
use native.Mathlib.Omega.{arith}
use mathlib.Core.Path.{◌∙◌}
use Rattle.locmaf_write_block.proofs.AbsentLaws.{mark-in}
use Rattle.locmaf_write_block.proofs.GoneLaws.{deleted-is}
use Rattle.locmaf_write_block.proofs.deletions.is_deleted.Goals as goal

pub offset_bounds-r-place : goal.offset_bounds-r-place
offset_bounds-r-place c =
    let w = c.requires.r_len.0 in
    omega (arith, mark-in _ c.requires.i_lt_line_count _ c.place_at-place.ensures c.args.r.now w, w)

pub bounds-r-place : goal.bounds-r-place
bounds-r-place c = mark-in _ c.requires.i_lt_line_count _ c.place_at-place.ensures c.args.r.now c.requires.r_len.0

pub offset_bounds-x-place : goal.offset_bounds-x-place
offset_bounds-x-place c =
    let w = c.requires.r_len.1 in
    omega (arith, mark-in _ c.requires.i_lt_line_count _ c.place_at-place.ensures c.args.x.now w, w)

pub bounds-x-place : goal.bounds-x-place
bounds-x-place c = mark-in _ c.requires.i_lt_line_count _ c.place_at-place.ensures c.args.x.now c.requires.r_len.1

pub returns : goal.returns
returns c =
    let a = c.args in
    λ t. c.vanished.ensures ∙ deleted-is t a.b.delta a.b.follow a.r.now a.x.now _ c.requires.i_lt_line_count _ c.place_at-place.ensures
