-- `cmaf_write_moof::moof::put_rows` meets its contract: the rows, and what is left of them.
use Prim.Native.Nat.{◌≤◌, ◌-◌}
use Rattle.laws.proofs.LeftLaws.{Left}
use Rattle.cmaf_write_moof.proofs.MoofLaws.{rows_by}
use Rattle.cmaf_write_moof.proofs.moof.put_rows.Given as goal

abbrev pub invariant-loop-i : goal.invariant-loop-i
invariant-loop-i l = (l.i ≤ l.n) × Left l.initial.out l.at (rows_by l.w l.last l.n 0) l.out l.p (rows_by l.w l.last (l.n - l.i) l.i)
