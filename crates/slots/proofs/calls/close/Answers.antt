-- `slots::calls::close` meets its contract, by the laws of a call on a share seen from the table.
use Rattle.slots.specs.Table.{itself}
use Rattle.slots.specs.Calls.{closing}
use Rattle.std.proofs.lemmas.Result.{err_from_is_err_and}
use Rattle.slots.proofs.TableLaws.{no-place, on-place}
use Rattle.slots.proofs.calls.close.Goals as goal

pub returns-in_err-at : goal.returns-in_err-at
returns-in_err-at c =
    let a = c.args in
    let p = err_from_is_err_and c.from_residual.result c.from_residual.ensures.1 in
    rw (p.1, p.2) (no-place itself (closing a.side) a.table.now a.slot c.in_err-at.ensures.place)

pub returns : goal.returns
returns c = let a = c.args in on-place itself (closing a.side) a.table.now a.slot c.in_ok-at.ensures.place _ _ c.close_share.ensures
