-- `receiver::judge::sums_ok` meets its contract: the sizes are asked before the protected sums.
use mathlib.Core.Path.{sym, ◌∙◌}
use Rattle.laws.proofs.TestLaws.{and-false}
use Rattle.receiver.proofs.JudgeLaws.{first-held}
use Rattle.receiver.proofs.judge.sums_ok.Goals as goal

pub returns-then-not-sizes_ok : goal.returns-then-not-sizes_ok
returns-then-not-sizes_ok c = sym (and-false _ (sym c.sizes_ok.ensures ∙ c.if-not-sizes_ok.true))

pub protected_ok-requires : goal.protected_ok-requires
protected_ok-requires c =
    let p = c.requires in
    record { summable = p.0; payload_le_payload_most = (p.1, sym c.sizes_ok.ensures ∙ c.if-not-sizes_ok.false) }

pub returns : goal.returns
returns c = first-held _ _ _ (sym c.sizes_ok.ensures ∙ c.if-not-sizes_ok.false) c.protected_ok.ensures
