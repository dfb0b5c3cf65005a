-- `cmaf_write_senc::senc::put_subsamples` meets its contract: the subsamples left to be written are those from j on.
use Prim.Native.Nat.{◌-◌}
use Rattle.laws.proofs.LeftLaws.{Left}
use Rattle.cmaf_write_senc.specs.Protected.{subsamples}
use Rattle.cmaf_write_senc.proofs.senc.put_subsamples.Given as goal

abbrev pub invariant-loop-j : goal.invariant-loop-j
invariant-loop-j l = Left l.initial.out l.at (subsamples l.w l.k l.i) l.out l.p (subsamples l.w (l.end - l.j) l.j)
