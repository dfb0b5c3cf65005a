-- `locmaf_write_events::records::text_bytes` meets its contract: a size and so many bytes.
use native.Mathlib.Omega.{arith}
use Rattle.locmaf_write_events.specs.Records.{text_bytes}
use Rattle.wire.proofs.SizeLaws.{size-eight}
use Rattle.locmaf_write_events.proofs.records.text_bytes.Goals as goal

pub overflow_add-result : goal.overflow_add-result
overflow_add-result c = omega (arith, c.size.ensures, size-eight c.args.form c.args.n, c.requires)

pub returns : goal.returns
unfolding text_bytes
returns c = (
  omega (arith, c.size.ensures),
  omega (arith, c.size.ensures, size-eight c.args.form c.args.n, c.requires),
)
