-- `cmaf_read_shape::parts::any_at` meets its contract: the head that was read is that of the list's first box.
use native.Mathlib.Omega.{arith}
use mathlib.Core.Path.{sym}
use lib.Seq.{length-take-le}
use Rattle.cmaf_read_tree.proofs.HeadLaws.{head_at, head-broken}
use Rattle.cmaf_read_shape.proofs.PartLaws.{any-stands, any-broken}
use Rattle.cmaf_read_shape.proofs.parts.any_at.Goals as goal

pub slice_bounds-head_at-end : goal.slice_bounds-head_at-end
slice_bounds-head_at-end c = sym (length-take-le _ _ c.requires.1)

pub head_at-requires : goal.head_at-requires
head_at-requires c = omega (arith, c.requires.0, length-take-le c.args.end c.args.c.now c.requires.1)

pub returns-in_default : goal.returns-in_default
returns-in_default c = any-broken _ _ _ (head-broken _ c.in_default.ensures.head)

pub returns : goal.returns
returns c = any-stands _ _ _ (head_at _ _ _ _ c.in-Some.ensures.head)
