-- `cmaf_read_prelude::emsg::store` meets its contract, by what is left to store.
use lib.ListN.{length}
use Rattle.cmaf_read_prelude.proofs.EventLaws.{Storing}
use Rattle.cmaf_read_prelude.proofs.emsg.store.Given as goal

abbrev pub invariant-loop-i : goal.invariant-loop-i
invariant-loop-i l = Storing l.initial.out l.at l.words l.out l.i
