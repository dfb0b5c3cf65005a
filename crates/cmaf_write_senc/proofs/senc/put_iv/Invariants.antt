-- `cmaf_write_senc::senc::put_iv` meets its contract: the words left to be written are those from j on.
use Prim.Native.Nat.{◌-◌}
use Rattle.laws.proofs.LeftLaws.{Left}
use Rattle.cmaf_write_senc.specs.Protected.{iv_bytes}
use Rattle.cmaf_write_senc.proofs.senc.put_iv.Given as goal

abbrev pub invariant-loop-j : goal.invariant-loop-j
invariant-loop-j l = Left l.initial.out l.at (iv_bytes l.w l.k l.i) l.out l.p (iv_bytes l.w (l.end - l.j) l.j)
