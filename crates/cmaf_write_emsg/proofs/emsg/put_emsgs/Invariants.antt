-- `cmaf_write_emsg::emsg::put_emsgs` meets its contract: the boxes, and what is left of them.
use Prim.Native.Nat.{◌≤◌, ◌-◌}
use Rattle.laws.proofs.LeftLaws.{Left}
use Rattle.cmaf_write_emsg.specs.Emsg.{emsg_boxes}
use Rattle.event_value.specs.Events.{events_from}
use Rattle.cmaf_write_emsg.proofs.emsg.put_emsgs.Given as goal

abbrev pub invariant-loop-i : goal.invariant-loop-i
invariant-loop-i l = (l.i ≤ l.k) × Left l.initial.out l.at (emsg_boxes (events_from l.o l.events l.k 0)) l.out l.p (emsg_boxes (events_from l.o l.events (l.k - l.i) l.i))
