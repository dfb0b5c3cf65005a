use mathlib.Core.Path.{refl, ◌∙◌}
use Rattle.cmaf_read_prelude.proofs.ZeroLaws.{zero-here, zero-next, zero-none}
use Rattle.cmaf_read_prelude.proofs.emsg.zero_from.Goals as goal

pub loop-i-init : goal.loop-i-init
loop-i-init c = (c.requires, refl)

pub returns-then-c-i-eq0 : goal.returns-then-c-i-eq0
returns-then-c-i-eq0 c =
    let l = c.loop-i in
    zero-here _ _ _ c.loop-i-test.true l.invariant.0 c.if-c-i-eq0.true ∙ l.invariant.1

pub loop-i-preserved : goal.loop-i-preserved
loop-i-preserved c =
    let l = c.loop-i in
    (l.invariant.0, zero-next _ _ _ c.loop-i-test.true l.invariant.0 c.if-c-i-eq0.false ∙ l.invariant.1)

pub returns : goal.returns
returns c = zero-none _ _ _ c.loop-i-test.false ∙ c.loop-i.invariant.1
