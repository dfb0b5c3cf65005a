-- `cmaf_read_prelude::styp::brands_in` meets its contract, by the length.
use Rattle.cmaf_read_prelude.proofs.StypLaws.{brands-none, brands-some}
use Rattle.cmaf_read_prelude.proofs.styp.brands_in.Goals as goal

pub returns-then-b-lt16 : goal.returns-then-b-lt16
returns-then-b-lt16 c = brands-none _ c.if-b-lt16.true

pub returns : goal.returns
returns c = brands-some _ c.if-b-lt16.false
