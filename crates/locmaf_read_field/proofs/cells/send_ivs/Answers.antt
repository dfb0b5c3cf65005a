-- `locmaf_read_field::cells::send_ivs` meets its contract, by the laws of `proofs/CellLaws.antt`.
use mathlib.Core.Path.{◌∙◌, ap}
use native.Mathlib.Omega.{arith}
use lib.ListN.{length, length-set}
use lib.Seq.{length-sets}
use Rattle.locmaf_read_field.proofs.CellLaws.{raw-misfit, raw-packed}
use Rattle.locmaf_read_field.proofs.cells.send_ivs.Goals as goal

pub returns-then-span-k : goal.returns-then-span-k
returns-then-span-k c = raw-misfit _ c.args.l.want c.args.span _ _ _ c.requires.0 c.if-span-k.true c.misfit.ensures

pub pack-requires : goal.pack-requires
pack-requires c = (omega (arith, c.requires.0, c.if-span-k.false), simp length-set (omega (arith, c.requires.1)))

pub shape_of-x : goal.shape_of-x
shape_of-x c = ap length c.pack.ensures ∙ simp (length-sets, length-set)

pub returns : goal.returns
returns c =
    raw-packed _ c.args.l.want c.args.span _ _ _ c.requires.0 c.if-span-k.false c.well.ensures _
    c.pack.ensures
