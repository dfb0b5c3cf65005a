use native.Mathlib.Omega.{arith}
use mathlib.Core.Path.{◌∙◌}
use Rattle.field_table.specs.Lines.{lines}
use Rattle.field_table.proofs.NoneLaws.{gather-start, gather-next, gather-end, zero-each}
use Rattle.locmaf_read_set.specs.Read.{none_sent}
use Rattle.locmaf_read_set.proofs.LeafLaws.{line-id}
use Rattle.locmaf_read_set.proofs.read.none_sent.Goals as goal

pub loop-i-init : goal.loop-i-init
loop-i-init c = gather-start _

pub overflow_mul-all : goal.overflow_mul-all
overflow_mul-all c = omega (arith, line-id _ c.loop-i-test.true _ c.id_at.ensures)

pub offset_bounds-index-id_at : goal.offset_bounds-index-id_at
offset_bounds-index-id_at c = omega (arith, line-id _ c.loop-i-test.true _ c.id_at.ensures)

pub bounds-index-id_at : goal.bounds-index-id_at
bounds-index-id_at c = omega (arith, line-id _ c.loop-i-test.true _ c.id_at.ensures, c.requires)

pub loop-i-preserved : goal.loop-i-preserved
loop-i-preserved c = gather-next _ _ _ c.loop-i.invariant c.loop-i-test.true _ (rw c.id_at.ensures)

pub returns : goal.returns
unfolding none_sent
returns c = gather-end _ _ _ c.loop-i.invariant c.loop-i-test.false ∙ zero-each _ lines
