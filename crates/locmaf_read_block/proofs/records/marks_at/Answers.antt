-- `locmaf_read_block::records::marks_at` meets its contract, by the laws of `proofs/RecordLaws.antt`.
use mathlib.Core.Path.{refl}
use Rattle.std.specs.Prelude.{None}
use Rattle.locmaf_read_block.specs.Records.{marks_at}
use Rattle.locmaf_read_block.proofs.ReadLaws.{found}
use Rattle.locmaf_read_block.proofs.RecordLaws.{number-none, number_is}
use Rattle.locmaf_read_block.proofs.records.marks_at.Goals as goal

pub returns-in_err-timescale : goal.returns-in_err-timescale
unfolding marks_at
returns-in_err-timescale c = rw c.from_residual.ensures (number-none _ _ _ _ None c.in_err-timescale.ensures)

pub returns-in_err-time : goal.returns-in_err-time
unfolding marks_at
returns-in_err-time c =
    rw c.from_residual-in_err-time.ensures
    (number_is _ _ _ _ None (found _ _ _ _ _ _ c.in_ok-timescale.ensures)
    (number-none _ _ _ _ None c.in_err-time.ensures))

pub returns-in_err-duration : goal.returns-in_err-duration
unfolding marks_at
returns-in_err-duration c =
    rw c.from_residual-in_err-duration.ensures
    (number_is _ _ _ _ None (found _ _ _ _ _ _ c.in_ok-timescale.ensures)
    (number_is _ _ _ _ None (found _ _ _ _ _ _ c.in_ok-time.ensures)
    (number-none _ _ _ _ None c.in_err-duration.ensures)))

pub returns-in_err-id : goal.returns-in_err-id
unfolding marks_at
returns-in_err-id c =
    rw c.from_residual-in_err-id.ensures
    (number_is _ _ _ _ None (found _ _ _ _ _ _ c.in_ok-timescale.ensures)
    (number_is _ _ _ _ None (found _ _ _ _ _ _ c.in_ok-time.ensures)
    (number_is _ _ _ _ None (found _ _ _ _ _ _ c.in_ok-duration.ensures)
    (number-none _ _ _ _ None c.in_err-id.ensures))))

pub returns : goal.returns
unfolding marks_at
returns c =
    number_is _ _ _ _ None (found _ _ _ _ _ _ c.in_ok-timescale.ensures)
    (number_is _ _ _ _ None (found _ _ _ _ _ _ c.in_ok-time.ensures)
    (number_is _ _ _ _ None (found _ _ _ _ _ _ c.in_ok-duration.ensures)
    (number_is _ _ _ _ None (found _ _ _ _ _ _ c.in_ok-id.ensures) refl)))
