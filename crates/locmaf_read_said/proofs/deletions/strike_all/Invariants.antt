-- `locmaf_read_said::deletions::strike_all` meets its contract, by the laws of `proofs/DeletionLaws.antt`.
use Prim.Native.Nat.{◌-◌}
use Rattle.wire.specs.Form.{rows}
use Rattle.locmaf_read_said.proofs.DeletionLaws.{Marking}
use Rattle.locmaf_read_said.proofs.deletions.strike_all.Given as goal

abbrev pub invariant-loop-p : goal.invariant-loop-p
invariant-loop-p l = Marking (rows l.form) l.o l.index l.r l.initial.gone l.gone l.end l.p

abbrev pub decreases-loop-p : goal.decreases-loop-p
decreases-loop-p l = l.end - l.p
