-- `cmaf_read_trun::rows::run_of` meets its contract.
use native.Mathlib.Omega.{arith}
use Rattle.cmaf_read_trun.proofs.RowLaws.{trun-long}
use Rattle.cmaf_read_trun.proofs.rows.run_of.Goals as goal

pub u32_at-word-requires : goal.u32_at-word-requires
u32_at-word-requires c = omega (arith, trun-long c.args.c.now c.args.b c.requires.b_value, c.requires.inside)

pub u32_at-requires : goal.u32_at-requires
u32_at-requires c = omega (arith, trun-long c.args.c.now c.args.b c.requires.b_value, c.requires.inside)

pub returns : goal.returns
returns c = (cc, c.u32_at.ensures.1)
