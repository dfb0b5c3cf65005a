-- `encoder::front::header_of` meets its contract: by the kind of object.
use Rattle.encoder.specs.Object.{header_of}
use Rattle.encoder.proofs.front.header_of.Goals as goal

pub returns-then-delta : goal.returns-then-delta
unfolding header_of
returns-then-delta c = rw c.if-delta.true

pub returns : goal.returns
unfolding header_of
returns c = rw c.if-delta.false
