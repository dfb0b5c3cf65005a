-- `locmaf_write_block::set::bmdt_size` meets its contract: an id that may stand.
use native.Mathlib.Omega.{arith}
use mathlib.Core.Path.{sym, ap}
use Rattle.locmaf_write_tuples.proofs.ItemLaws.{made-is, weighed-as, weighed-nothing}
use Rattle.locmaf_write_block.proofs.StandLaws.{no-bmdt, bmdt-sent}
use mathlib.Core.Bool.{not}
use Rattle.locmaf_write_block.proofs.set.bmdt_size.Goals as goal

pub returns-then-not-stands : goal.returns-then-not-stands
returns-then-not-stands c = weighed-as (sym (no-bmdt _ _ _ (ap not c.if-not-stands.true))) weighed-nothing

pub number_size-requires : goal.number_size-requires
number_size-requires c = (omega arith, made-is _ _ _ _ _ c.code-c.ensures)

pub returns : goal.returns
returns c = weighed-as (bmdt-sent _ _ _ (ap not c.if-not-stands.false) c.code-c.ensures) c.number_size.ensures
