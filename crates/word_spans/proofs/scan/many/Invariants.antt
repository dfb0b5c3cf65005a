-- `word_spans::scan::many` meets its contract, by what is collected before the loops' place; the last step takes some of that once more.
use Prim.Native.Nat.{◌-◌}
use Rattle.word_spans.specs.Totals.{both_lanes}
use Rattle.word_spans.proofs.ScanLaws.{Collected}
use Rattle.word_spans.proofs.scan.many.Given as goal

abbrev pub invariant-loop-i : goal.invariant-loop-i
invariant-loop-i l = Collected l.w l.from l.to (both_lanes l.all) l.i

abbrev pub decreases-loop-i : goal.decreases-loop-i
decreases-loop-i l = l.to - l.i

abbrev pub invariant-loop-i-2 : goal.invariant-loop-i-2
invariant-loop-i-2 l = Collected l.w l.from l.to (both_lanes l.all) l.i

abbrev pub decreases-loop-i-2 : goal.decreases-loop-i-2
decreases-loop-i-2 l = l.to - l.i
