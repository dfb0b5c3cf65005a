-- `field_table::marks::none_stands` meets its contract, by the marks that are left to collect.
use Prim.Native.Nat.{◌-◌}
use lib.ListN.{get_or}
use Rattle.field_table.specs.declared.lines.Line.{Line}
use Rattle.field_table.specs.Lines.{line_count}
use Rattle.field_table.proofs.NoneLaws.{Gathering}
use Rattle.field_table.proofs.marks.none_stands.Given as goal

abbrev pub invariant-loop-i : goal.invariant-loop-i
invariant-loop-i live = Gathering (λ (l : Line). get_or live.w l.place 0) live.all live.i
