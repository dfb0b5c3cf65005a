-- `mfhd_numbers::compare` meets its contract: the tests are the definition's, and the numbers lie in their chunks.
use Prim.Native.Nat.{◌+◌, ◌-◌, ◌%◌}
use Rattle.mfhd_numbers.proofs.SequenceLaws.{tested-same, same-tested}
use Rattle.mfhd_numbers.proofs.compare.Goals as goal

pub returns : goal.returns
returns c =
    let x = c.args in
    let e = c.number_of-p.ensures.0 in
    let f = c.number_of-q.ensures.0 in
    let g = c.same_around.ensures in record { same_but = (tested-same x.front x.a.now x.b.now _ _ _ e f g.0, same-tested x.front x.a.now x.b.now _ _ _ e f g.1); less_value = λ i. (c.value.ensures.0 i + 4294967296 - c.value-2.ensures.0 i) % 4294967296 }
