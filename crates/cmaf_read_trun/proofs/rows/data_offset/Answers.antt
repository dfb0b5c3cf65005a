-- `cmaf_read_trun::rows::data_offset` meets its contract.
use native.Mathlib.Omega.{arith}
use Rattle.cmaf_read_trun.proofs.RowLaws.{trun-long}
use Rattle.cmaf_read_trun.proofs.rows.data_offset.Goals as goal

pub u32_at-requires : goal.u32_at-requires
u32_at-requires c = omega (arith, trun-long c.args.c.now c.args.b c.requires.b_value, c.requires.inside)
