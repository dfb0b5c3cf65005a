-- `wire::form::ones` meets its contract: it is computed from the table.
use Rattle.wire.specs.Form.{ones}
use Rattle.wire.proofs.FormLaws.{only}
use Rattle.wire.proofs.form.ones.Goals as goal

pub returns : goal.returns
unfolding ones
returns c = rw (only c.args.form)
