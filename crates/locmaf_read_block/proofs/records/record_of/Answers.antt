-- `locmaf_read_block::records::record_of` meets its contract: two texts, four numbers and a text, one behind the other.
use mathlib.Core.Path.{sym, ◌∙◌}
use Rattle.locmaf_read_block.proofs.RecordLaws.{record-named}
use Rattle.locmaf_read_block.proofs.records.record_of.Goals as goal

pub returns-in_err-scheme : goal.returns-in_err-scheme
returns-in_err-scheme c = rw c.from_residual.ensures (sym (record-named _ _ _ ∙ rw (sym c.in_err-scheme.ensures)))

pub returns-in_err-marks : goal.returns-in_err-marks
returns-in_err-marks c =
    rw c.from_residual-in_err-marks.ensures
    (sym (record-named _ _ _ ∙ rw (sym c.in_ok-scheme.ensures, sym c.in_err-marks.ensures)))

pub returns-in_err-message : goal.returns-in_err-message
returns-in_err-message c =
    rw c.from_residual-in_err-message.ensures
    (sym (record-named _ _ _ ∙ rw (
      sym c.in_ok-scheme.ensures,
      sym c.in_ok-marks.ensures,
      sym c.in_err-message.ensures,
    )))

pub returns : goal.returns
returns c =
    sym (record-named _ _ _ ∙ rw (
      sym c.in_ok-scheme.ensures,
      sym c.in_ok-marks.ensures,
      sym c.in_ok-message.ensures,
    ))
