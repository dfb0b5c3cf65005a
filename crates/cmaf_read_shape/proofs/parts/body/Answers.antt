-- `cmaf_read_shape::parts::body` meets its contract: the two cases of the definition.
use Rattle.cmaf_read_shape.proofs.PartLaws.{body-short, body-long}
use Rattle.cmaf_read_shape.proofs.parts.body.Goals as goal

pub returns-then-p-lt8 : goal.returns-then-p-lt8
returns-then-p-lt8 c = body-short _ c.if-p-lt8.true

pub returns : goal.returns
returns c = body-long _ c.if-p-lt8.false
