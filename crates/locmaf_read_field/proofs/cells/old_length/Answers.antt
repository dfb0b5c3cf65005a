-- `locmaf_read_field::cells::old_length` meets its contract, by whether the field stood.
use Rattle.locmaf_read_field.proofs.cells.old_length.Goals as goal

pub returns-then-stood : goal.returns-then-stood
returns-then-stood c = rw c.if-stood.true c.length_of.ensures

pub returns-else-stood : goal.returns-else-stood
returns-else-stood c = rw c.if-stood.false
