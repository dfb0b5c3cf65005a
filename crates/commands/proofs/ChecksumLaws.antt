-- A checksum by what is left to add from a place on. Assumes nothing.
use Prim.Native.Nat.{ℕ, ◌+◌, ◌*◌, ◌%◌, ◌≤◌, ◌<◌}
use native.Mathlib.Numerals.{add-one}
use native.Mathlib.Omega.{arith}
use mathlib.Core.Path.{◌≡◌, refl, sym, ◌∙◌, ap}
use mathlib.Core.List.{List}
use borrow.Author.Tests.{le-leb, lt-leb}
use lib.ListN.{length, get_or}
use lib.Seq.{slice, slice-cons}
use Rattle.laws.proofs.GateLaws.{stop, pass}
use Rattle.laws.proofs.SliceLaws.{slice-none}
use Rattle.commands.specs.Checksum.{sum_from, checksum_of}

-- the number h at the place i
pub record Summing (s : List ℕ) (n h i : ℕ) : Type 0 where
  pub low : i ≤ n
  pub within : n ≤ length s
  pub small : h < 0x100_0000_0000
  pub left : sum_from h (slice i n s) ≡ checksum_of s n

sum-next : (s : List ℕ) (n h i : ℕ) → i < n → n ≤ length s → sum_from h (slice i n s) ≡ sum_from ((h * 65599 + get_or s i 0) % 0x100_0000_0000) (slice (i + 1) n s)
unfolding sum_from
sum-next s n h i lt le = rw (add-one, slice-cons i n s 0 lt le)

module _ (s : List ℕ) (n : ℕ) where
  pub sum-few : length s < n → 0 ≡ checksum_of s n
  unfolding checksum_of
  sum-few h = stop (sum_from 1 (slice 0 n s)) (lt-leb n (length s) h)

  pub sum-start : n ≤ length s → Summing s n 1 0
  unfolding checksum_of
  sum-start h = record { low = omega arith; within = h; small = omega arith; left = pass 0 (le-leb n (length s) h) refl }

  module _ (h i : ℕ) (x : Summing s n h i) where
    pub sum_more : i < n → Summing s n ((h * 65599 + get_or s i 0) % 0x100_0000_0000) (i + 1)
    sum_more lt =
        record { low = omega arith; within = x.within; small = omega arith; left = sym (sum-next s n h i lt x.within) ∙ x.left }

    pub sum-end : n ≤ i → h ≡ checksum_of s n
    unfolding sum_from
    sum-end le = let z : sum_from h (slice i n s) ≡ h = ap (sum_from h) (slice-none i n s le) in sym z ∙ x.left
