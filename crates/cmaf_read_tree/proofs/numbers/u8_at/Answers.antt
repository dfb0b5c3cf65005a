-- `cmaf_read_tree::numbers::u8_at` meets its contract, by one byte.
use native.Mathlib.Omega.{arith}
use Rattle.cmaf_read_tree.proofs.NumberLaws.{de-one}
use Rattle.cmaf_read_tree.proofs.numbers.u8_at.Goals as goal

pub overflow_cast-result : goal.overflow_cast-result
overflow_cast-result c = omega (arith, c.type_inv.b c.args.at)

pub returns : goal.returns
returns c =
    let a = c.args in
    (de-one a.at a.b.now (omega arith), omega (arith, c.type_inv.b a.at))
