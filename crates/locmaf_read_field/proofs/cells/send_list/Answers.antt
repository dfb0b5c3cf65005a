-- `locmaf_read_field::cells::send_list` meets its contract, by the laws of `proofs/CellLaws.antt`.
use Prim.Native.Nat.{◌+◌}
use mathlib.Core.Path.{sym, ◌∙◌, ap}
use native.Mathlib.Omega.{arith}
use lib.ListN.{length, length-set}
use lib.Seq.{length-sets}
use Rattle.laws.proofs.SliceLaws.{slice-lent}
use Rattle.locmaf_read_field.proofs.CellLaws.{list-raw, list-misfit, list-filled}
use Rattle.locmaf_read_field.proofs.cells.send_list.Goals as goal

pub send_ivs-requires : goal.send_ivs-requires
send_ivs-requires c = (c.requires.listed.inside, c.requires.room)

pub shape_of-x-then-is_ivs : goal.shape_of-x-then-is_ivs
shape_of-x-then-is_ivs c = c.send_ivs.ensures.long

pub returns-then-is_ivs : goal.returns-then-is_ivs
returns-then-is_ivs c = list-raw _ _ _ _ _ _ _ _ _ _ c.requires.listed (sym c.is_ivs.ensures ∙ c.if-is_ivs.true) _ _ c.send_ivs.ensures

pub returns-then-span-k : goal.returns-then-span-k
returns-then-span-k c = list-misfit _ _ _ _ _ _ _ _ _ _ c.requires.listed (sym c.is_ivs.ensures ∙ c.if-is_ivs.false) c.if-span-k.true c.misfit.ensures _

pub fill-f-requires : goal.fill-f-requires
fill-f-requires c = simp length-set (omega (arith, c.requires.room))

pub shape_of-x : goal.shape_of-x
shape_of-x c = ap length c.fill-f.ensures.stored ∙ simp (length-sets, length-set)

pub returns : goal.returns
returns c =
    list-filled _ _ _ _ _ _ _ _ _ _ c.requires.listed (sym c.is_ivs.ensures ∙ c.if-is_ivs.false) c.if-span-k.false _ c.filled.ensures _ _
    (rw (slice-lent (c.args.l.place + 1) (c.args.l.place + 1 + c.args.u) c.args.r.now (omega arith) c.requires.olds) at c.fill-f.ensures)
