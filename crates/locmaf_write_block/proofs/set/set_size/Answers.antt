-- `locmaf_write_block::set::set_size` meets its contract: its parts weighed together.
use native.Mathlib.Omega.{arith}
use Rattle.locmaf_write_tuples.proofs.ItemLaws.{weighed-as, sum-small}
use Rattle.locmaf_write_block.proofs.LinesLaws.{keep_all}
use Rattle.locmaf_write_block.proofs.StandLaws.{bmdt-is}
use Rattle.locmaf_write_block.proofs.SetLaws.{set-weighed}
use Rattle.locmaf_write_block.proofs.set.set_size.Goals as goal

pub bounds-kept-13 : goal.bounds-kept-13
bounds-kept-13 c = omega (arith, c.lines_size-fields.ensures.1.long)

pub both-numbers-requires : goal.both-numbers-requires
both-numbers-requires c = (omega (arith, c.bmdt_size-bmdt.ensures.small), omega (arith, c.count_size-count.ensures.small))

pub both-requires : goal.both-requires
both-requires c =
    let l = c.lines_size-fields.ensures in
    (omega (arith, l.0.small), rw c.both-numbers.ensures (omega (arith, sum-small c.bmdt_size-bmdt.result c.count_size-count.result, c.count_size-count.ensures.small, c.bmdt_size-bmdt.ensures.small)))

pub returns : goal.returns
returns c =
    let l = c.lines_size-fields.ensures in
    let stands = c.bmdt_stands.ensures _ _ c.requires.based.1 in (
      set-weighed _ _ _ _ _ _ l.0 (weighed-as (bmdt-is _ _ _ _ _ stands) c.bmdt_size-bmdt.ensures) c.count_size-count.ensures _ _ c.both-numbers.ensures c.both.ensures,
      keep_all _ _ _ _ _ _ l.1 l.0 c.unwrap_or.ensures,
    )
