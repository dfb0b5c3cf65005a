-- `locmaf_write_block::set::basis_of` meets its contract: the lengths of the two sets.
use Rattle.locmaf_write_block.proofs.StandLaws.{basis-delta, basis-full}
use Rattle.locmaf_write_block.proofs.set.basis_of.Goals as goal

pub measure-requires : goal.measure-requires
measure-requires c = let w = c.requires in record { w_len = w.old-words; iv_size_bound = w.iv; w_value = w.old c.if-delta.true }

pub returns-then-delta : goal.returns-then-delta
returns-then-delta c =
    let a = c.args in
    basis-delta a.t a.delta a.follow a.r.now a.x.now c.if-delta.true _ _ c.measure.ensures c.measure-now.ensures

pub returns : goal.returns
returns c =
    let a = c.args in
    basis-full a.t a.delta a.follow a.r.now a.x.now c.if-delta.false _ c.measure-now.ensures
