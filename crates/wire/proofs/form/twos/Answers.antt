-- `wire::form::twos` meets its contract: it is computed from the table.
use Rattle.wire.specs.Form.{twos}
use Rattle.wire.proofs.FormLaws.{only}
use Rattle.wire.proofs.form.twos.Goals as goal

pub returns : goal.returns
unfolding twos
returns c = rw (only c.args.form)
