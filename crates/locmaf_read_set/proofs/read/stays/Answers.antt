-- `locmaf_read_set::read::stays` meets its contract, by the laws of `proofs/LeafLaws.antt`.
use native.Mathlib.Omega.{arith}
use Rattle.locmaf_read_set.proofs.LeafLaws.{line-id, line-place, stays_by}
use Rattle.locmaf_read_set.proofs.read.stays.Goals as goal

pub overflow_mul-result : goal.overflow_mul-result
overflow_mul-result c = omega (arith, line-id _ c.requires.0 _ c.id_at-id.ensures)

pub offset_bounds-index-id : goal.offset_bounds-index-id
offset_bounds-index-id c = omega (arith, line-id _ c.requires.0 _ c.id_at-id.ensures)

pub bounds-index-id : goal.bounds-index-id
bounds-index-id c = omega (arith, line-id _ c.requires.0 _ c.id_at-id.ensures)

pub offset_bounds-gone-id : goal.offset_bounds-gone-id
offset_bounds-gone-id c = omega (arith, line-id _ c.requires.0 _ c.id_at-id.ensures)

pub bounds-gone-id : goal.bounds-gone-id
bounds-gone-id c = omega (arith, line-id _ c.requires.0 _ c.id_at-id.ensures)

pub offset_bounds-r-place : goal.offset_bounds-r-place
offset_bounds-r-place c = omega (arith, line-place _ c.requires.0 _ c.place_at-place.ensures)

pub bounds-r-place : goal.bounds-r-place
bounds-r-place c = omega (arith, line-place _ c.requires.0 _ c.place_at-place.ensures)

pub returns : goal.returns
returns c = stays_by _ _ _ _ _ c.requires.0 _ _ c.id_at-id.ensures c.place_at-place.ensures
