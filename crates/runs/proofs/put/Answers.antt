use mathlib.Core.Path.{sym, ◌∙◌}
use Rattle.wire.specs.Form.{rows}
use Rattle.runs.proofs.PutLoop.{start, end, wide, z-room, next}
use Rattle.runs.proofs.put.Goals as goal

pub loop-i-init : goal.loop-i-init
loop-i-init c = start (rows c.args.form) _ _ _ _ _ _ c.requires

pub returns-in_default : goal.returns-in_default
returns-in_default c =
    wide _ _ _ _ _ _ _ _ _ _ c.loop-i.invariant c.loop-i-test.true
    (rw c.old_at.ensures at (sym c.code.ensures ∙ c.in_default.is))

pub put-p-requires : goal.put-p-requires
put-p-requires c = z-room _ _ _ _ _ _ _ _ _ _ c.loop-i.invariant c.loop-i-test.true _ (rw c.old_at.ensures at (sym c.code.ensures ∙ c.in-Some.is))

pub loop-i-preserved : goal.loop-i-preserved
loop-i-preserved c = next _ _ _ _ _ _ _ _ _ _ c.loop-i.invariant c.loop-i-test.true _ (rw c.old_at.ensures at (sym c.code.ensures ∙ c.in-Some.is)) _ _ c.put-p.ensures

pub returns : goal.returns
returns c = end _ _ _ _ _ _ _ _ _ _ c.loop-i.invariant c.loop-i-test.false
