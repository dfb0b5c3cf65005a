-- `locmaf_read_field::cells::carry` meets its contract, by the laws of `proofs/CellLaws.antt`.
use mathlib.Core.Path.{sym, ◌∙◌, ap}
use lib.ListN.{length, length-set}
use lib.Seq.{length-sets}
use Rattle.locmaf_read_field.proofs.CellLaws.{taken-always, carry-ivs, carry-long, carry_same}
use Rattle.locmaf_read_field.proofs.cells.carry.Goals as goal

pub returns-then-is_ivs : goal.returns-then-is_ivs
returns-then-is_ivs c =
    let ivs = sym c.is_ivs.ensures ∙ c.if-is_ivs.true in
    carry-ivs _ _ _ _ c.args.r.now _ ivs c.well.ensures _ (λ clear. clear ivs)

pub returns-then-not-carries : goal.returns-then-not-carries
returns-then-not-carries c = taken-always (carry-long _ _ _ _ c.args.r.now _ (sym c.is_ivs.ensures ∙ c.if-is_ivs.false) (sym c.carries.ensures ∙ c.if-not-carries.true) c.misfit.ensures _)

pub shape_of-x : goal.shape_of-x
shape_of-x c = ap length c.copy.ensures ∙ simp (length-sets, length-set)

pub returns : goal.returns
returns c = taken-always (carry_same _ _ _ _ _ _ (sym c.is_ivs.ensures ∙ c.if-is_ivs.false) (sym c.carries.ensures ∙ c.if-not-carries.false) c.well-2.ensures _ c.copy.ensures)
