-- Laws of the effective durations: the ways to their sum, and how large it is. Assumes nothing.
use Prim.Native.Nat.{ℕ, ◌+◌, ◌*◌, ◌≤◌}
use native.Mathlib.Nat.{mul-le-mul_right}
use native.Mathlib.Omega.{arith}
use mathlib.Core.Path.{◌≡◌, refl}
use mathlib.Core.Bool.{Bool, true, false}
use mathlib.Core.List.{List}
use borrow.Author.Tests.{not-true}
use lib.Dec.{eqb}
use lib.ListN.{length, get_or}
use lib.Seq.{slice}
use Rattle.constants.specs.Maxima.{samples_most}
use Rattle.laws.specs.Tests.{sum}
use Rattle.laws.proofs.TestLaws.{sum-next}
use Rattle.track.specs.declared.Track.{Track}
use Rattle.field_table.specs.Lines.{lines, line_for, set_len, durations_at, duration_at, offsets_at}
use Rattle.field_set.specs.Lawful.{has, values_of, in_use, value_at, count_in, lawful}
use Rattle.effective.specs.Durations.{durations_of, Timed}
use Rattle.told_sizes.proofs.SumLaws.{part-most, bounded}
use Rattle.field_set.proofs.LawfulLaws.{lawful-facts, lawful-region}

-- the words of id 3
durations-are : (r : List ℕ) → has 3 r ≡ true → values_of 3 (count_in r) r ≡ slice (durations_at + 1) ((durations_at + 1) + count_in r) r
unfolding has values_of in_use lines line_for
durations-are r h = rw (not-true (eqb (get_or r durations_at 0) 0) h)

-- as many samples of one duration
pub product-most : (n v : ℕ) → n ≤ samples_most → v ≤ 0xffff_ffff → n * v ≤ samples_most * 0xffff_ffff
product-most n v a b = omega (arith, mul-le-mul_right v a)

module _ {r : List ℕ} (h : Timed r) where
  pub durations-small : sum (slice (durations_at + 1) ((durations_at + 1) + count_in r) r) ≤ samples_most * 0xffff_ffff
  unfolding lines line_for
  durations-small =
      let l : duration_at ≤ length r = omega (arith, h.words) in
      omega (arith, part-most 0xffff_ffff (durations_at + 1) duration_at (durations_at + 1) ((durations_at + 1) + count_in r) r h.durations l (omega arith) (omega arith) (omega (arith, h.few)))

  pub duration-small : get_or r (duration_at + 1) 0 ≤ 0xffff_ffff
  unfolding lines line_for
  duration-small =
      let l : offsets_at ≤ length r = omega (arith, h.words) in
      omega (arith, part-most 0xffff_ffff (duration_at + 1) offsets_at (duration_at + 1) offsets_at r h.duration l (omega arith) (omega arith) (omega arith), sum-next r (duration_at + 1) offsets_at (omega arith) l)

-- the ways out of the sum of the durations
module _ (t : Track) (r : List ℕ) where
  pub durations-listed : has 3 r ≡ true → (d : ℕ) → d ≡ sum (slice (durations_at + 1) ((durations_at + 1) + count_in r) r) → d ≡ durations_of t r
  unfolding durations_of
  durations-listed h d e = rw (h, durations-are r h) e

  pub durations-told : has 3 r ≡ true → (d : ℕ) → d ≡ sum (values_of 3 (count_in r) r) → d ≡ durations_of t r
  unfolding durations_of
  durations-told h d e = rw h e

  pub durations-default : has 3 r ≡ false → has 4 r ≡ true → count_in r * value_at 4 0 r ≡ durations_of t r
  unfolding durations_of
  durations-default h g = rw (h, g)

  pub durations-trex : has 3 r ≡ false → has 4 r ≡ false → count_in r * t.duration ≡ durations_of t r
  unfolding durations_of
  durations-trex h g = rw (h, g)

  -- at most 64 durations of 32 bits
  pub durations-most : Timed r → t.duration ≤ 0xffff_ffff → durations_of t r ≤ samples_most * 0xffff_ffff
  unfolding lines line_for
  durations-most h f = go (has 3 r) (has 4 r) refl refl
    where
      go : (a b : Bool) → has 3 r ≡ a → has 4 r ≡ b → durations_of t r ≤ samples_most * 0xffff_ffff
      go true b p q = omega (arith, durations-listed p _ refl, durations-small h)
      go false true p q = omega (arith, durations-default p q, product-most (count_in r) (get_or r (duration_at + 1) 0) h.few (duration-small h))
      go false false p q = omega (arith, durations-trex p q, product-most (count_in r) t.duration h.few f)

-- those of a lawful set keep their bounds
pub lawful-timed : (t : Track) (r : List ℕ) → length r ≡ set_len → lawful t r ≡ true → Timed r
unfolding lines line_for
lawful-timed t r n e =
    record {
      words = n;
      few = (lawful-facts t r e).count;
      durations = bounded _ _ r (lawful-region t r 2 e (omega arith)) (omega (arith, n));
      duration = bounded _ _ r (lawful-region t r 3 e (omega arith)) (omega (arith, n));
    }
