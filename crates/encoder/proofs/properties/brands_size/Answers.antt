-- `encoder::properties::brands_size` meets its contract: no brands, or one tuple with the bytes of the `styp` but its minor version.
use native.Mathlib.Omega.{arith}
use Rattle.encoder.proofs.BrandLaws.{brands-none, brands-long, brands-weighed}
use borrow.Author.Rules.{rules}
use mathlib.Core.Path.{sym}
use Rattle.locmaf_write_tuples.proofs.ItemLaws.{weighed-as, weighed-nothing}
use Rattle.encoder.proofs.properties.brands_size.Goals as goal

pub returns-then-delta-n : goal.returns-then-delta-n
returns-then-delta-n c =
    λ names e.
    weighed-as (sym (brands-none c.args.form c.requires names e _ c.if-delta-n.true)) weighed-nothing

pub overflow_sub-n : goal.overflow_sub-n
overflow_sub-n c =
    let l = brands-long c.requires c.args.delta c.if-delta-n.false in
    search rules

pub body_size-requires : goal.body_size-requires
body_size-requires c = omega (arith, c.requires.few)

pub returns : goal.returns
returns c =
    λ names e.
    brands-weighed c.args.form c.requires names e _ c.if-delta-n.false c.body_size.ensures
