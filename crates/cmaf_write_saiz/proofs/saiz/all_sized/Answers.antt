use native.Mathlib.Nat.{sub-zero}
use mathlib.Core.Path.{sym, ◌∙◌}
use Rattle.cmaf_write_saiz.proofs.SaizLaws.{sized-end, sized-next, sized-not}
use Rattle.cmaf_write_saiz.proofs.saiz.all_sized.Goals as goal

pub loop-i-init : goal.loop-i-init
loop-i-init c = rw sub-zero

pub returns-then-info_size-v : goal.returns-then-info_size-v
returns-then-info_size-v c =
    let l = c.loop-i in
    sym (sized-not _ _ _ l.i _ c.loop-i-test.true (λ q. c.if-info_size-v.true (c.info_size.ensures.0 ∙ q))) ∙ l.invariant

pub loop-i-preserved : goal.loop-i-preserved
loop-i-preserved c =
    let l = c.loop-i in
    sym (sized-next _ _ _ l.i _ c.loop-i-test.true (sym c.info_size.ensures.0 ∙ c.if-info_size-v.false)) ∙ l.invariant

pub returns : goal.returns
returns c = sym (sized-end _ _ _ _ _ c.loop-i-test.false) ∙ c.loop-i.invariant
