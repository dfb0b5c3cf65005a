-- `receiver::receive::opened` meets its contract, by the laws of `proofs/ReceiveLaws.antt`.
use mathlib.Core.Path.{sym, ◌∙◌}
use Rattle.std.proofs.lemmas.Result.{err_from_is_err_and}
use Rattle.wire.specs.Form.{rows}
use Rattle.receiver.proofs.ReceiveLaws.{opened-unlawful, opened-closed, opened-headless, opened-unheld, opened-held}
use Rattle.receiver.proofs.receive.opened.Goals as goal

pub returns-then-not-is_lawful : goal.returns-then-not-is_lawful
returns-then-not-is_lawful c =
    let a = c.args in
    opened-unlawful (rows a.form) a.o.now a.s.now (sym c.is_lawful.ensures ∙ c.if-not-is_lawful.true)

pub returns-then-s-eq0 : goal.returns-then-s-eq0
returns-then-s-eq0 c =
    let a = c.args in
    opened-closed (rows a.form) a.o.now a.s.now (sym c.is_lawful.ensures ∙ c.if-not-is_lawful.false) c.if-s-eq0.true

pub returns-in_err-p : goal.returns-in_err-p
returns-in_err-p c =
    let a = c.args in
    let p = err_from_is_err_and c.from_residual.result c.from_residual.ensures.1 in
    rw (p.1, p.2)
    (opened-headless (rows a.form) a.o.now a.s.now (sym c.is_lawful.ensures ∙ c.if-not-is_lawful.false) c.if-s-eq0.false _
    (sym c.in_err-p.ensures))

pub returns-then-p-s : goal.returns-then-p-s
returns-then-p-s c =
    let a = c.args in
    opened-unheld (rows a.form) a.o.now a.s.now (sym c.is_lawful.ensures ∙ c.if-not-is_lawful.false) c.if-s-eq0.false _
    (sym c.in_ok-p.ensures) c.if-p-s.true

pub returns : goal.returns
returns c =
    let a = c.args in
    opened-held (rows a.form) a.o.now a.s.now (sym c.is_lawful.ensures ∙ c.if-not-is_lawful.false) c.if-s-eq0.false _
    (sym c.in_ok-p.ensures) c.if-p-s.false c.requires
