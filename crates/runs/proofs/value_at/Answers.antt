-- `runs::value_at` meets its contract, by the laws of `proofs/NextLaws.antt`.
use mathlib.Core.Path.{sym, ◌∙◌}
use Rattle.std.proofs.lemmas.Result.{err_from_is_err_and}
use Rattle.wire.specs.Form.{rows}
use Rattle.runs.proofs.NextLaws.{ok_or-ok, ok_or-err, next-cut, next-outside, next-value}
use Rattle.runs.proofs.value_at.Goals as goal

pub returns-in_err-z : goal.returns-in_err-z
returns-in_err-z c =
    let p = err_from_is_err_and c.from_residual.result c.from_residual.ensures.1 in
    let k = ok_or-err _ _ _ (sym c.ok_or.ensures.value ∙ c.in_err-z.was) in
    rw (p.1, p.2, k.1) (next-cut (rows c.args.form) _ _ _ _ _ _ _ _ c.read.ensures k.0)

pub returns-in_err-v : goal.returns-in_err-v
returns-in_err-v c =
    let p = err_from_is_err_and c.from_residual-in_err-v.result c.from_residual-in_err-v.ensures.1 in
    let g = ok_or-ok _ _ _ (sym c.ok_or.ensures.value ∙ c.in_ok-z.was) in
    let k = ok_or-err _ _ _ (sym c.ok_or-2.ensures.value ∙ c.in_err-v.was) in
    rw (p.1, p.2, k.1) (next-outside (rows c.args.form) _ _ _ _ _ _ _ _ c.read.ensures g c.old_at.ensures c.reach.ensures k.0)

pub returns : goal.returns
returns c =
    let g = ok_or-ok _ _ _ (sym c.ok_or.ensures.value ∙ c.in_ok-z.was) in
    let t = ok_or-ok _ _ _ (sym c.ok_or-2.ensures.value ∙ c.in_ok-v.was) in
    next-value (rows c.args.form) _ _ _ _ _ _ _ _ c.read.ensures g c.old_at.ensures c.reach.ensures t
