-- `cmaf_read_tree::numbers::u16_at` meets its contract, by the two halves of a number.
use native.Mathlib.Omega.{arith}
use borrow.Author.Rules.{rules}
use Rattle.cmaf_read_tree.proofs.NumberLaws.{de-halves}
use Rattle.cmaf_read_tree.proofs.numbers.u16_at.Goals as goal

pub returns : goal.returns
returns c =
    let a = c.args in
    (omega (arith, de-halves 1 1 a.at a.b.now (search rules)), omega arith)
