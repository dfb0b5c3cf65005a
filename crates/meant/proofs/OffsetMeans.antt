-- A composition offset with its sign is the raised one less 2^31. Assumes nothing.
use Prim.Native.Nat.{ℕ, suc, ◌+◌, ◌-◌, ◌^◌, ◌≤◌, ◌<◌}
use native.Mathlib.Nat.{mod-eq_of_lt}
use native.Mathlib.Omega.{arith}
use mathlib.Core.Path.{◌≡◌, refl}
use mathlib.Core.Bool.{Bool, true, false, cond}
use borrow.Author.Tests.{ltb-true, ltb-false, lt-ltb, le-ltb}
use lib.Dec.{ltb}
use lib.IntN.{pos, ◌-ℤ◌}
use Rattle.cmaf_read_samples.specs.Held.{raised}
use Rattle.meaning.specs.Meaning.{signed}

-- a number below 2^31
pub raised-low : (v : ℕ) → v < 0x8000_0000 → pos (raised v) -ℤ pos 0x8000_0000 ≡ pos v
raised-low v h =
    let r : raised v ≡ v + 0x8000_0000 = mod-eq_of_lt (omega arith) in
    let d : raised v - 0x8000_0000 ≡ v = omega arith in
    rw (le-ltb (raised v) 0x8000_0000 (omega arith), d)

-- one with a sign
pub raised-signed : (v : ℕ) → v < 2 ^ 32 → pos (raised v) -ℤ pos 0x8000_0000 ≡ signed v
unfolding signed
raised-signed v h = by (ltb v 0x8000_0000) refl
  where
    by : (b : Bool) → ltb v 0x8000_0000 ≡ b → pos (raised v) -ℤ pos 0x8000_0000 ≡ cond b (pos v) (pos v -ℤ pos 0x1_0000_0000)
    by true e = raised-low v (ltb-true _ _ e)
    by false e =
        let l : 0x8000_0000 ≤ v = ltb-false _ _ e in
        let r : raised v ≡ v - 0x8000_0000 = omega arith in
        let d : 0x8000_0000 - suc (raised v) ≡ 0x1_0000_0000 - suc v = omega arith in
        rw (lt-ltb (raised v) 0x8000_0000 (omega arith), lt-ltb v 0x1_0000_0000 (omega arith), d)
