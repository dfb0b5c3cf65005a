-- `cmaf_read_prelude::emsg::emsgs_ok` meets its contract, box by box.
use Rattle.cmaf_read_prelude.proofs.EmsgLaws.{Looking}
use Rattle.cmaf_read_prelude.proofs.emsg.emsgs_ok.Given as goal

abbrev pub invariant-loop-i : goal.invariant-loop-i
invariant-loop-i l = Looking l.c l.k l.at l.ok l.p l.i
