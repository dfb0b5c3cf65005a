-- `field_table::lines::number_of` meets its contract, by what the lines that are left say.
use Prim.Native.Nat.{◌-◌}
use Rattle.field_table.specs.Lines.{line_count}
use Rattle.field_table.proofs.LineLaws.{Seeking}
use Rattle.field_table.proofs.lines.number_of.Given as goal

abbrev pub invariant-loop-i : goal.invariant-loop-i
invariant-loop-i l = Seeking l.id l.i
