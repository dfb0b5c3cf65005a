-- `locmaf_read_times::bmdt::bmdt_of` meets its contract: the time that is sent, or the one that is expected.
use Rattle.locmaf_read_times.proofs.BmdtLaws.{bmdt-index, bmdt-expected, bmdt-past}
use Rattle.locmaf_read_times.proofs.bmdt.bmdt_of.Goals as goal

pub returns-then-index-ne0 : goal.returns-then-index-ne0
returns-then-index-ne0 c = λ t r e. bmdt-index t r c.args.index.now c.if-index-ne0.true

pub returns-then-e-ne0 : goal.returns-then-e-ne0
returns-then-e-ne0 c = λ t r q. let a = c.args in bmdt-past t r a.index.now c.if-index-ne0.false a.e q c.if-e-ne0.true

pub returns : goal.returns
returns c = λ t r q. let a = c.args in bmdt-expected t r a.index.now c.if-index-ne0.false a.e q c.if-e-ne0.false
