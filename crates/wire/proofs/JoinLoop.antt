-- The loop of `join`: what is joined so far and the bytes that are left spell the whole, and there is room for them in 64 bits. Assumes nothing.
use Prim.Native.Nat.{ℕ, suc, ◌+◌, ◌-◌, ◌*◌, ◌^◌, ◌≤◌, ◌<◌}
use native.Mathlib.Nat.{mul_assoc, add-mul, add_assoc, add-zero, mul-one, pow-succ', mul-le-mul_right, mul-le-mul_left, le_trans, sub_self}
use native.Mathlib.Numerals.{add-one}
use native.Mathlib.Omega.{arith}
use mathlib.Core.Path.{◌≡◌}
use mathlib.Core.List.{List}
use lib.ListN.{length, get_or}
use lib.Seq.{slice, slice-cons, slice_empty, length-slice}
use Rattle.laws.specs.Bytes.{de}
use Rattle.laws.proofs.BytesLaws.{pow_pos}

-- after the bytes before the place i
pub record Joined (s : List ℕ) (from to acc v i : ℕ) : Type 0 where
  pub low : from ≤ i
  pub high : i ≤ to
  pub inside : to ≤ length s
  pub room : (v + 1) * 256 ^ (to - i) ≤ 2 ^ 64
  pub whole : v * 256 ^ (to - i) + de (slice i to s) ≡ acc * 256 ^ (to - from) + de (slice from to s)

module _ (s : List ℕ) (from to acc v i : ℕ) (h : Joined s from to acc v i) (lt : i < to) where
  left : 256 ^ (to - i) ≡ 256 * 256 ^ (to - (i + 1))
  left = let e : to - i ≡ suc (to - (i + 1)) = omega arith in rw (e, pow-succ')

  split : (v + 1) * 256 ^ (to - i) ≡ (v + 1) * 256 * 256 ^ (to - (i + 1))
  split = rw (left, mul_assoc)

  -- the next byte has room
  pub next-room : (v + 1) * 256 ≤ 2 ^ 64
  next-room =
      let one : (v + 1) * 256 * 1 ≤ (v + 1) * 256 * 256 ^ (to - (i + 1)) = mul-le-mul_left ((v + 1) * 256) (pow_pos (to - (i + 1))) in
      omega (arith, split, h.room)

  -- what the bytes that are left spell, by the first of them
  step : de (slice i to s) ≡ get_or s i 0 * 256 ^ (to - (i + 1)) + de (slice (i + 1) to s)
  unfolding de
  step =
      let n : length (slice (suc i) to s) ≡ to - suc i = length-slice (suc i) to s h.inside in
      rw (slice-cons i to s 0 lt h.inside, n, add-one)

  -- a byte more
  pub next : get_or s i 0 < 256 → Joined s from to acc (v * 256 + get_or s i 0) (i + 1)
  next b =
      record {
        low = omega (arith, h.low);
        high = omega arith;
        inside = h.inside;
        room =
            let e : v * 256 + get_or s i 0 + 1 ≤ (v + 1) * 256 = omega arith in
            le_trans (mul-le-mul_right (256 ^ (to - (i + 1))) e) (omega (arith, split, h.room));
        whole = rw (add-mul, mul_assoc, add_assoc) (rw (left, step) at h.whole);
      }

-- at the end
pub joined : (s : List ℕ) (from to acc v i : ℕ) → Joined s from to acc v i → to ≤ i
    → v ≡ acc * 256 ^ (to - from) + de (slice from to s)
unfolding de
joined s from to acc v i h le =
    let e : i ≡ to = omega (arith, h.high) in
    rw (e, slice_empty, sub_self, mul-one, add-zero) at h.whole
