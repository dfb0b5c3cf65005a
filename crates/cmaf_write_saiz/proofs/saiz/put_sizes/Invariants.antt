-- `cmaf_write_saiz::saiz::put_sizes` meets its contract: the sizes left to be written are those from the sample i on.
use Prim.Native.Nat.{◌-◌}
use Rattle.laws.proofs.LeftLaws.{Left}
use Rattle.cmaf_write_saiz.specs.Saiz.{info_sizes}
use Rattle.cmaf_write_saiz.proofs.saiz.put_sizes.Given as goal

abbrev pub invariant-loop-i : goal.invariant-loop-i
invariant-loop-i l = Left l.initial.out l.at (info_sizes l.t l.w l.n 0) l.out l.p (info_sizes l.t l.w (l.n - l.i) l.i)
