-- `counters::protected::last_bytes` meets its contract: the last subsamples are those of the last sample.
use native.Mathlib.Omega.{arith}
use Rattle.counters.proofs.ProtectedLaws.{pairs-few, own-few, own-small, last-is}
use Rattle.counters.proofs.protected.last_bytes.Goals as goal

pub overflow_sub-end : goal.overflow_sub-end
overflow_sub-end c =
    let p = c.requires in
    omega (arith, own-few p.summable.0 p.summable.1 p.summable.2 _ p.pairs_value)

pub add_up-requires : goal.add_up-requires
add_up-requires c =
    let p = c.requires in
    (omega (arith, p.summable.0.words, pairs-few p.summable.0 p.summable.1 p.summable.2 _ p.pairs_value), own-small p.summable.0 p.summable.1 p.summable.2 _ p.pairs_value)

pub returns : goal.returns
returns c =
    let p = c.requires in
    last-is p.summable.0 p.summable.1 p.summable.2 _ p.pairs_value _ c.add_up.ensures
