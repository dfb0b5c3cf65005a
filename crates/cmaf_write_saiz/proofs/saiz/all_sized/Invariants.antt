-- `cmaf_write_saiz::saiz::all_sized` meets its contract: whether all samples have the size is whether those left have it.
use Prim.Native.Nat.{◌-◌}
use mathlib.Core.Path.{◌≡◌}
use Rattle.cmaf_write_saiz.specs.Saiz.{all_sized}
use Rattle.cmaf_write_saiz.proofs.saiz.all_sized.Given as goal

abbrev pub invariant-loop-i : goal.invariant-loop-i
invariant-loop-i l = all_sized l.t l.w l.v (l.n - l.i) l.i ≡ all_sized l.t l.w l.v l.n 0
