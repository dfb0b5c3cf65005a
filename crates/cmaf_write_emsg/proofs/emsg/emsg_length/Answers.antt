-- `cmaf_write_emsg::emsg::emsg_length` meets its contract.
use native.Mathlib.Omega.{arith}
use mathlib.Core.Path.{sym}
use Rattle.cmaf_write_emsg.proofs.EmsgLaws.{event-length}
use Rattle.cmaf_write_emsg.proofs.emsg.emsg_length.Goals as goal

pub returns : goal.returns
returns c =
    let a = c.args in
    let h = c.requires in
    ((λ o f. sym (event-length o a.event.now 0 f)), omega (arith, h.scheme, h.value, h.message))
