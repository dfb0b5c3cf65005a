-- The loop that collects the bits of a part of a list and adds its words up. Assumes nothing.
use Prim.Native.Nat.{ℕ, ◌+◌, ◌*◌, ◌%◌, ◌^◌, ◌≤◌, ◌<◌}
use native.Mathlib.Nat.{mod-eq_of_lt}
use native.Mathlib.Numerals.{add-one}
use native.Mathlib.Omega.{arith}
use mathlib.Core.Path.{◌≡◌, refl, sym, ◌∙◌}
use mathlib.Core.Bool.{true}
use mathlib.Core.List.{List, [], ◌∷◌}
use borrow.Author.Tests.{leb-true}
use lib.ListN.{length, get_or}
use lib.Seq.{slice, slice-cons}
use lib.Bits.{bit_or, or_zero_r}
use Rattle.laws.specs.Tests.{all_le, all_bits, sum}
use Rattle.laws.proofs.SliceLaws.{slice-none}
use Rattle.laws.proofs.TestLaws.{left, right, or_assoc}
use Rattle.word_spans.specs.Totals.{TotalOf}

-- bits and a sum of the words before i, and what is left of them; words of 32 bits leave words of 32 bits
pub record Totalling (w : List ℕ) (from to bits n i : ℕ) : Type 0 where
  pub inside : to ≤ length w
  pub few : to ≤ from + 2 ^ 32
  pub small : n + 0xffff_ffff * from ≤ 0xffff_ffff * i
  pub rest : bit_or bits (all_bits (slice i to w)) ≡ all_bits (slice from to w)
  pub narrow : all_le 0xffff_ffff (slice from to w) ≡ true → all_le 0xffff_ffff (slice i to w) ≡ true
  pub total : all_le 0xffff_ffff (slice from to w) ≡ true → n + sum (slice i to w) ≡ sum (slice from to w)

-- what no word comes to
pub total-none : TotalOf (record { bits = 0; sum = 0 }) []
unfolding all_bits sum
total-none = record { bits = refl; total = λ _. refl }

module _ (w : List ℕ) (from to : ℕ) where
  -- no word is added yet
  pub total-start : to ≤ length w → to ≤ from + 2 ^ 32 → Totalling w from to 0 0 from
  total-start a b =
      record {
        inside = a;
        few = b;
        small = omega arith;
        rest = refl;
        narrow = λ e. e;
        total = λ _. omega arith;
      }

  module _ (bits n i : ℕ) (h : Totalling w from to bits n i) where
    -- one word more, which counts whole where it has 32 bits
    pub total-more : i < to → Totalling w from to (bit_or bits (get_or w i 0)) (n + get_or w i 0 % 0x1_0000_0000) (i + 1)
    unfolding all_bits all_le sum
    total-more lt =
        let v : ℕ = get_or w i 0 in
        let s : slice i to w ≡ v ∷ slice (i + 1) to w = rw add-one (slice-cons i to w 0 lt h.inside) in
        record {
          inside = h.inside;
          few = h.few;
          small = omega (arith, h.small);
          rest = or_assoc bits v (all_bits (slice (i + 1) to w)) ∙ rw s at h.rest;
          narrow = λ e. right _ _ (rw s at (h.narrow e));
          total =
              λ e.
              let k : v ≤ 0xffff_ffff = leb-true v 0xffff_ffff (left _ _ (rw s at (h.narrow e))) in
              let same : v % 0x1_0000_0000 ≡ v = mod-eq_of_lt (omega arith) in
              omega (arith, rw s at (h.total e));
        }

    -- none is left
    pub total-end : to ≤ i → TotalOf (record { bits = bits; sum = n }) (slice from to w)
    unfolding all_bits sum
    total-end le =
        let s : slice i to w ≡ [] = slice-none i to w le in
        record {
          bits = sym (or_zero_r bits) ∙ rw s at h.rest;
          total = λ e. omega (arith, rw s at (h.total e));
        }
