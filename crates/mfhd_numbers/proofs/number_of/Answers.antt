-- `mfhd_numbers::number_of` meets its contract: a `mfhd` of 16 bytes and more has a number, and it lies within.
use native.Mathlib.Omega.{arith}
use Rattle.mfhd_numbers.proofs.SequenceLaws.{number-none, number-here}
use Rattle.mfhd_numbers.proofs.number_of.Goals as goal

pub returns-then-mfhd-lt16 : goal.returns-then-mfhd-lt16
returns-then-mfhd-lt16 c = number-none _ _ c.mfhd_of-mfhd.ensures.0 (omega arith)

pub returns : goal.returns
returns c = number-here _ _ c.mfhd_of-mfhd.ensures.0 c.mfhd_of-mfhd.ensures.1 (omega arith)
