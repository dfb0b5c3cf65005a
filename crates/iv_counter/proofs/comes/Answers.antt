-- `iv_counter::comes` meets its contract, by the next counter compared.
use Prim.Native.Nat.{◌+◌}
use Rattle.iv_counter.specs.Counter.{blocks}
use Rattle.iv_counter.proofs.CounterLaws.{compared}
use Rattle.iv_counter.proofs.comes.Goals as goal

pub returns : goal.returns
returns c =
    let a = c.args in
    λ k m l kk e h g good. compared k (m + blocks a.bytes) l _ a.d (c.next-e.ensures k m kk e h) g good c.struct_known-5-1.given.1.1.0.fits c.struct_known-4-1.given.1.1.0.fits
