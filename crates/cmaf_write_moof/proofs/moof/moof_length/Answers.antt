-- `cmaf_write_moof::moof::moof_length` meets its contract.
use native.Mathlib.Omega.{arith}
use Rattle.cmaf_write_moof.proofs.MoofLaws.{moof-length}
use Rattle.cmaf_write_moof.proofs.moof.moof_length.Goals as goal

pub returns : goal.returns
returns c =
    let a = c.args in
    let e = c.plain_length.ensures.0 in
    let q = c.protection_length in
    record { length = λ sequence payload offset. rw e (moof-length a.t sequence a.w.now payload q.result q.ensures.length offset); small = omega (arith, c.plain_length.ensures.1, q.ensures.small) }
