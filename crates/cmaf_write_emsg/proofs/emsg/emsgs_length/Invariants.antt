-- `cmaf_write_emsg::emsg::emsgs_length` meets its contract: a sum, and what is left of it.
use Prim.Native.Nat.{◌-◌}
use Rattle.cmaf_write_emsg.proofs.EmsgLaws.{Adding}
use Rattle.cmaf_write_emsg.proofs.emsg.emsgs_length.Given as goal

abbrev pub invariant-loop-i : goal.invariant-loop-i
invariant-loop-i l = Adding l.events l.k l.sum l.i
