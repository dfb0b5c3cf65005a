-- `receiver::receive::receive` meets its contract, by the laws of a call on a share seen from the table.
use Rattle.std.proofs.lemmas.Result.{err_from_is_err_and}
use Rattle.wire.specs.declared.form.Form.TheVariants.{Rfc9000}
use Rattle.wire.specs.Form.{rows}
use Rattle.slots.proofs.TableLaws.{no-place, on-place}
use Rattle.answers.specs.Took.{refused}
use Rattle.receiver.specs.Receive.{receiving}
use Rattle.receiver.proofs.receive.receive.Goals as goal

pub returns-in_err-at : goal.returns-in_err-at
returns-in_err-at c =
    let a = c.args in
    let p = err_from_is_err_and c.from_residual.result c.from_residual.ensures.1 in
    rw (p.1, p.2) (no-place (refused a.output.now) (receiving (rows Rfc9000) a.object.now a.output.now) a.table.now a.slot c.in_err-at.ensures.place)

pub returns : goal.returns
returns c =
    let a = c.args in
    on-place (refused a.output.now) (receiving (rows Rfc9000) a.object.now a.output.now) a.table.now a.slot c.in_ok-at.ensures.place _ _ c.take_object.ensures
