-- `cmaf_write_prelude::outer::styp_length` meets its contract.
use native.Mathlib.Omega.{arith}
use mathlib.Core.Path.{sym, ap}
use lib.ListN.{length}
use Rattle.cmaf_write_prelude.proofs.OuterLaws.{styp-none, styp-length}
use Rattle.cmaf_write_prelude.proofs.outer.styp_length.Goals as goal

pub returns-then-brands-eq0 : goal.returns-then-brands-eq0
returns-then-brands-eq0 c = (ap length (sym (styp-none c.args.brands.now c.if-brands-eq0.true)), omega arith)

pub returns : goal.returns
returns c = let h = c.requires in (sym (styp-length c.args.brands.now c.if-brands-eq0.false), omega (arith, h.few))
