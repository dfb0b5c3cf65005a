-- A time comes back from its number on the wire, on every clock. Assumes nothing.
use Prim.Native.Nat.{ℕ, ◌-◌, ◌^◌, ◌≤◌, ◌<◌}
use native.Mathlib.Omega.{arith}
use mathlib.Core.Path.{◌≡◌}
use mathlib.Core.List.{List}
use Rattle.wire.specs.declared.form.Row.{Row}
use Rattle.wire.specs.declared.zigzag.Coding.{Coding}
use Rattle.std.specs.Prelude.{Some}
use Rattle.wire.specs.Zigzag.{code_of}
use Rattle.wire.proofs.ZigzagLaws.{code-back}
use Rattle.media.specs.Clocks.{track_at, ntp_at}

module _ (F : List Row) (coding : Coding) (from t : ℕ) {z : ℕ} (given : code_of F coding from t ≡ Some z) where
  pub track-back : (bound : ℕ) → t ≤ bound → track_at coding from bound z ≡ Some (record { 0 = t })
  unfolding track_at
  track-back bound low = rw (code-back F coding from t bound given low)

  pub ntp-back : t < 2 ^ 64 → ntp_at coding from z ≡ Some (record { 0 = t })
  unfolding ntp_at
  ntp-back low = rw (code-back F coding from t (2 ^ 64 - 1) given (omega arith))
