-- `locmaf_read_block::records::names_at` meets its contract: a text, and a text behind it.
use mathlib.Core.Path.{sym}
use Rattle.locmaf_read_block.specs.Records.{names_at}
use Rattle.locmaf_read_block.proofs.records.names_at.Goals as goal

pub returns-in_err-scheme : goal.returns-in_err-scheme
unfolding names_at
returns-in_err-scheme c = rw (c.from_residual.ensures, sym c.in_err-scheme.ensures)

pub returns-in_err-value : goal.returns-in_err-value
unfolding names_at
returns-in_err-value c = rw (c.from_residual-in_err-value.ensures, sym c.in_ok-scheme.ensures, sym c.in_err-value.ensures)

pub returns : goal.returns
unfolding names_at
returns c = rw (sym c.in_ok-scheme.ensures, sym c.in_ok-value.ensures)
