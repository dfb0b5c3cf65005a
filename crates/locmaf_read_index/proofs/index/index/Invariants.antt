-- `locmaf_read_index::index::index` meets its contract, by the laws of `proofs/IndexLoop.antt`.
use Prim.Native.Nat.{◌-◌}
use Rattle.wire.specs.Form.{rows}
use Rattle.locmaf_read_index.proofs.IndexLoop.{Indexing}
use Rattle.locmaf_read_index.proofs.index.index.Given as goal

abbrev pub invariant-loop-p : goal.invariant-loop-p
invariant-loop-p l = Indexing (rows l.form) l.s l.at l.end l.initial.out l.initial.events l.out l.events l.clean l.p

abbrev pub decreases-loop-p : goal.decreases-loop-p
decreases-loop-p l = l.end - l.p
