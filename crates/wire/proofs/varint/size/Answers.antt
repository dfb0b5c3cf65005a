-- `wire::varint::size` meets its contract, by the row that `by_value` found.
use native.Mathlib.Omega.{arith}
use native.Mathlib.Numerals.{add-one}
use mathlib.Core.Path.{sym, ◌∙◌}
use Rattle.wire.specs.Form.{rows}
use Rattle.wire.proofs.FormLaws.{lawful, by-value}
use Rattle.wire.proofs.VarintLaws.{size_in, size-past}
use Rattle.wire.proofs.varint.size.Goals as goal

pub returns-in_default : goal.returns-in_default
returns-in_default c =
    let a = c.args in
    c.most.ensures
    ∙ sym (size-past (rows a.form) a.v (sym c.by_value.ensures ∙ c.in_default.is))

pub overflow_add-result : goal.overflow_add-result
overflow_add-result c =
    let a = c.args in
    omega (arith, (by-value (rows a.form) 0 a.v _ (lawful a.form) (sym c.by_value.ensures ∙ c.in-Some.is)).short)

pub returns : goal.returns
returns c =
    let a = c.args in
    rw add-one (sym (size_in (rows a.form) a.v _ (sym c.by_value.ensures ∙ c.in-Some.is)))
