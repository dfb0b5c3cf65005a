-- `locmaf_write_block::set::count_size` meets its contract: an id that may stand.
use native.Mathlib.Omega.{arith}
use mathlib.Core.Path.{sym, ap}
use Rattle.locmaf_write_tuples.proofs.ItemLaws.{made-is, weighed-nothing, weighed-as}
use Rattle.locmaf_write_block.proofs.StandLaws.{no-count, count-is}
use mathlib.Core.Bool.{not}
use Rattle.locmaf_write_block.proofs.set.count_size.Goals as goal

pub returns-then-not-count_stands : goal.returns-then-not-count_stands
returns-then-not-count_stands c = weighed-as (sym (no-count _ _ _ _ c.count_stands.ensures (ap not c.if-not-count_stands.true))) weighed-nothing

pub number_size-requires : goal.number_size-requires
number_size-requires c = (omega arith, made-is _ _ _ _ _ c.code-c.ensures)

pub returns : goal.returns
returns c =
    let stands = c.count_stands.ensures in
    weighed-as (count-is _ _ _ _ stands (ap not c.if-not-count_stands.false) c.coding_for.ensures c.code-c.ensures) c.number_size.ensures
