-- `cmaf_read_trun::rows::run_flags_ok` meets its contract: by the five bits.
use Rattle.cmaf_read_trun.proofs.RowLaws.{flags-are}
use Rattle.cmaf_read_trun.proofs.rows.run_flags_ok.Goals as goal

pub returns : goal.returns
returns c =
    flags-are _ _ _ _ _ _ c.bit-first.ensures.0 c.bit-flags.ensures.0
    c.bit.ensures.0
    c.bit-2.ensures.0 c.bit-3.ensures.0
