-- The number that n bytes of the chunk spell is below 256 ^ n. Assumes nothing.
use Prim.Native.Nat.{ℕ, ◌+◌, ◌-◌, ◌^◌, ◌≤◌, ◌<◌}
use native.Mathlib.Omega.{arith}
use mathlib.Core.Path.{◌≡◌, ◌∙◌, subst}
use mathlib.Core.List.{List}
use lib.ListN.{length, take}
use lib.Seq.{slice, length-slice}
use Rattle.laws.specs.Bytes.{de, Bytes}
use Rattle.laws.proofs.BytesLaws.{bytes_take, bytes_drop, de-lt}

pub number_lt : (c : List ℕ) (n at : ℕ) → Bytes c → at + n ≤ length c → de (slice at (at + n) c) < 256 ^ n
number_lt c n at h k =
    let z : at + n - at ≡ n = omega arith in
    subst (λ (m : ℕ). de (slice at (at + n) c) < 256 ^ m) (length-slice at (at + n) c k ∙ z)
    (de-lt (slice at (at + n) c) (bytes_drop at (take (at + n) c) (bytes_take (at + n) c h)))
