-- `field_set::lawful::regions_ok` meets its contract, by what the lines that are left say.
use Prim.Native.Nat.{◌-◌}
use Rattle.field_table.specs.Lines.{line_count}
use Rattle.field_set.proofs.RegionLaws.{Scanning}
use Rattle.field_set.proofs.lawful.regions_ok.Given as goal

abbrev pub invariant-loop-i : goal.invariant-loop-i
invariant-loop-i l = Scanning l.m l.w l.ok l.rest l.free l.i
