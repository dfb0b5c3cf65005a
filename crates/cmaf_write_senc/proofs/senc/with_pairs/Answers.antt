-- `cmaf_write_senc::senc::with_pairs` meets its contract, by whether the mark of id 11 is 0.
use native.Mathlib.Omega.{arith}
use Rattle.field_table.specs.Lines.{lines, line_for}
use Rattle.field_set.proofs.ValueLaws.{has_no, has-yes}
use Rattle.cmaf_write_senc.proofs.senc.with_pairs.Goals as goal

pub returns-then-w-eq0 : goal.returns-then-w-eq0
unfolding line_for lines
returns-then-w-eq0 c = let a = c.args in (rw (has_no 11 a.w.now c.if-w-eq0.true), omega arith)

pub returns-else-w-eq0 : goal.returns-else-w-eq0
unfolding line_for lines
returns-else-w-eq0 c = let a = c.args in (rw (has-yes 11 a.w.now c.if-w-eq0.false), omega arith)
