use Prim.Native.Nat.{◌-◌}
use Rattle.field_table.proofs.LineLaws.{seek-start, seek_found, seek-next, seek-end}
use Rattle.field_table.proofs.lines.number_of.Goals as goal

pub loop-i-init : goal.loop-i-init
loop-i-init c = seek-start _

pub returns-then-line_at-id : goal.returns-then-line_at-id
returns-then-line_at-id c = seek_found _ _ c.loop-i.invariant c.loop-i-test.true _ c.line_at.ensures c.if-line_at-id.true

pub loop-i-preserved : goal.loop-i-preserved
loop-i-preserved c = seek-next _ _ c.loop-i.invariant c.loop-i-test.true _ c.line_at.ensures c.if-line_at-id.false

pub returns : goal.returns
returns c = seek-end _ _ c.loop-i.invariant c.loop-i-test.false
