-- `locmaf_write_tuples::tuples::body_size` meets its contract: a varint takes at most eight bytes.
use native.Mathlib.Omega.{arith}
use Rattle.wire.proofs.SizeLaws.{size-eight}
use Rattle.locmaf_write_tuples.proofs.tuples.body_size.Goals as goal

pub overflow_add-result : goal.overflow_add-result
overflow_add-result c = let a = c.args in omega (arith, c.size-2.ensures, c.requires, size-eight a.form a.n)

pub overflow_add-result-2 : goal.overflow_add-result-2
overflow_add-result-2 c =
    let a = c.args in
    omega (arith, c.size-2.ensures, c.size.ensures, c.requires, size-eight a.form a.n, size-eight a.form a.id)

pub returns : goal.returns
returns c =
    let a = c.args in (
      omega (arith, c.size-2.ensures, c.size.ensures),
      omega (arith, c.size-2.ensures, c.size.ensures, size-eight a.form a.n, size-eight a.form a.id),
    )
