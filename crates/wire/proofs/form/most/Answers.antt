-- `wire::form::most` meets its contract: the table's longest varint is computed.
use Rattle.wire.specs.Form.{longest}
use Rattle.wire.proofs.FormLaws.{only}
use Rattle.wire.proofs.form.most.Goals as goal

pub returns : goal.returns
unfolding longest
returns c = rw (only c.args.form)
