-- `locmaf_read_block::numbers::four_at` meets its contract: four bytes one after the other.
use mathlib.Core.Path.{sym}
use Rattle.wire.specs.Form.{rows}
use Rattle.locmaf_read_block.proofs.OnesLaws.{ones-four}
use Rattle.locmaf_read_block.proofs.numbers.four_at.Goals as goal

pub returns : goal.returns
returns c =
    let a = c.args in
    rw (c.one_at.ensures, c.one_at-2.ensures, c.one_at-3.ensures, c.one_at-4.ensures)
    (sym (ones-four (rows a.form) a.p a.s.now c.requires))
