-- `mfhd_numbers::value` meets its contract: what the four bytes spell, or 0 where there are none.
use native.Mathlib.Omega.{arith}
use borrow.Author.Rules.{rules}
use Rattle.mfhd_numbers.proofs.SequenceLaws.{value_none, value-here}
use Rattle.mfhd_numbers.proofs.value.Goals as goal

pub returns-then-number-lt4 : goal.returns-then-number-lt4
returns-then-number-lt4 c =
    let a = c.args in
    (value_none a.c.now a.number (search rules) (omega arith), omega arith)

pub returns : goal.returns
returns c =
    let a = c.args in
    (value-here a.c.now a.number _ (search rules) (omega arith) c.u32_at.ensures.0, c.u32_at.ensures.1)
