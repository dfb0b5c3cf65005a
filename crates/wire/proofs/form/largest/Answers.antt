-- `wire::form::largest` meets its contract: the table's limit is computed.
use Rattle.wire.specs.Form.{limit}
use Rattle.wire.proofs.FormLaws.{only}
use Rattle.wire.proofs.form.largest.Goals as goal

pub returns : goal.returns
unfolding limit
returns c = rw (only c.args.form)
