-- `wire::form::by_value` meets its contract: there is one form.
use Rattle.wire.proofs.FormLaws.{only}
use Rattle.wire.proofs.form.by_value.Goals as goal

pub returns : goal.returns
returns c = rw (only c.args.form) c.rfc9000_by_value.ensures
