-- `cmaf_write_senc::senc::pairs_of` meets its contract.
use Rattle.field_table.specs.Lines.{lines, line_for}
use Rattle.cmaf_write_senc.proofs.senc.pairs_of.Goals as goal

pub returns : goal.returns
unfolding line_for lines
returns c = c.with_pairs.ensures.0
