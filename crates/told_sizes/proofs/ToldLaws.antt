-- What code finds of the sizes that a set's words tell. Assumes nothing.
use Prim.Native.Nat.{ℕ, suc, ◌+◌, ◌-◌, ◌*◌, ◌^◌, ◌≤◌, ◌<◌}
use native.Mathlib.Numerals.{add-one}
use native.Mathlib.Omega.{arith}
use mathlib.Core.Path.{◌≡◌, sym, ◌∙◌}
use mathlib.Core.Bool.{Bool, true, false, ◌&&◌, ◌||◌}
use mathlib.Core.List.{List}
use borrow.Author.Tests.{le-leb, lt-leb}
use lib.Dec.{eqb, leb}
use lib.Seq.{slice}
use Rattle.laws.specs.Tests.{◌and◌, sum}
use Rattle.laws.proofs.TestLaws.{and-next, and-end, and_is}
use Rattle.track.specs.declared.Track.{Track}
use Rattle.field_table.specs.Lines.{lines, line_for}
use Rattle.field_set.specs.Lawful.{has, value_at, count_in, values_of}
use Rattle.field_set.proofs.ValueLaws.{listed, pairs_left, pairs-all, pairs_end, pairs_next}
use Rattle.told_sizes.specs.Sums.{bytes_of, pair_bytes, Summable}
use Rattle.constants.specs.Maxima.{payload_most, subsamples_most}
use Rattle.told_sizes.specs.Told.{told_sum, may_have, samples_agree, sizes_agree}
use Rattle.told_sizes.proofs.SumLaws.{clear-small, protected-small, no_pairs, pairs-join}

-- ---- the sum of what is told

module _ (t : Track) (w : List ℕ) where
  pub told_none : count_in w ≤ 1 → 0 ≡ told_sum t w
  unfolding told_sum
  told_none h = rw (le-leb (count_in w) 1 h)

  module _ (many : 1 < count_in w) where
    pub told-listed : has 1 w ≡ true → (r : ℕ) → r ≡ sum (slice 3 (2 + count_in w) w) → r ≡ told_sum t w
    unfolding told_sum
    told-listed h r e = rw (lt-leb (count_in w) 1 many, h, listed w many h, e)

    pub told-default : has 1 w ≡ false → has 6 w ≡ true → count_in w * value_at 6 0 w ≡ told_sum t w
    unfolding told_sum
    told-default h g = rw (lt-leb (count_in w) 1 many, h, g)

    pub told-trex : has 1 w ≡ false → has 6 w ≡ false → count_in w * t.size ≡ told_sum t w
    unfolding told_sum
    told-trex h g = rw (lt-leb (count_in w) 1 many, h, g)

  -- ---- a sample's bytes beside what is told

  module _ (i bytes : ℕ) where
    pub may-lone : count_in w ≤ 1 → true ≡ may_have t w i bytes
    unfolding may_have
    may-lone h = rw (le-leb (count_in w) 1 h)

    module _ (many : 1 < count_in w) where
      pub may-listed : has 1 w ≡ true → (leb (count_in w) (i + 1) || eqb (value_at 1 i w) bytes) ≡ may_have t w i bytes
      unfolding may_have
      may-listed h = rw (lt-leb (count_in w) 1 many, h)

      pub may-default : has 1 w ≡ false → has 6 w ≡ true → eqb (value_at 6 0 w) bytes ≡ may_have t w i bytes
      unfolding may_have
      may-default h g = rw (lt-leb (count_in w) 1 many, h, g)

      pub may-trex : has 1 w ≡ false → has 6 w ≡ false → eqb t.size bytes ≡ may_have t w i bytes
      unfolding may_have
      may-trex h g = rw (lt-leb (count_in w) 1 many, h, g)

-- ---- all samples

-- the samples before i were looked at: this is the outcome, so many bytes, and j subsamples
pub record Agreeing (t : Track) (w : List ℕ) (n : ℕ) (ok : Bool) (all j i : ℕ) : Type 0 where
  pub place : i ≤ n
  pub pairs : j + pairs_left w n i ≡ sum (values_of 11 n w)
  pub bytes : all ≡ pair_bytes w 0 j
  pub rest : (ok and samples_agree t w (n - i) i j) ≡ samples_agree t w n 0 0

module _ (t : Track) {w : List ℕ} (s : Summable w) where
  pub agree-start : Agreeing t w (count_in w) true 0 0 0
  unfolding ◌and◌
  agree-start =
      let z : count_in w - 0 ≡ count_in w = omega arith in
      record { place = omega arith; pairs = omega (arith, pairs-all w (count_in w)); bytes = sym (no_pairs w); rest = rw z }

  module _ (on : has 11 w ≡ true) (ok : Bool) (all j i : ℕ) (h : Agreeing t w (count_in w) ok all j i) where
    module _ (lt : i < count_in w) where
      counts : j + value_at 11 i w + pairs_left w (count_in w) (i + 1) ≡ sum (values_of 11 (count_in w) w)
      counts =
          let c : pairs_left w (count_in w) i ≡ value_at 11 i w + pairs_left w (count_in w) (suc i) =
          pairs_next w (count_in w) i s.words s.few lt ∙ rw on in
          rw (add-one i) (omega (arith, c, h.pairs))

      -- its subsamples are among the first 256
      pub agree-fits : j + value_at 11 i w ≤ subsamples_most
      agree-fits = omega (arith, counts, s.subsamples)

      pub agree-small : all < 2 ^ 41
      unfolding bytes_of lines line_for
      agree-small = omega (arith, h.bytes, clear-small s 0 j (omega (arith, agree-fits)), protected-small s 0 j (omega (arith, agree-fits)))

      pub agree-next : (bytes : ℕ) → bytes ≡ pair_bytes w j (value_at 11 i w) → (r : Bool) → r ≡ may_have t w i bytes
          → Agreeing t w (count_in w) (ok && r) (all + bytes) (j + value_at 11 i w) (i + 1)
      unfolding samples_agree
      agree-next bytes z r d =
          let n : count_in w - i ≡ suc (count_in w - suc i) = omega arith in
          record {
            place = omega arith;
            pairs = counts;
            bytes = omega (arith, h.bytes, z, pairs-join s j (value_at 11 i w) agree-fits);
            rest = and-next ok r _ ∙ rw (d, z, add-one i) (rw n at h.rest);
          }

    pub agree-end : count_in w ≤ i
        → (ok && leb all payload_most) ≡ (samples_agree t w (count_in w) 0 0 and leb (pair_bytes w 0 (sum (values_of 11 (count_in w) w))) payload_most)
    unfolding samples_agree
    agree-end le =
        let n : count_in w - i ≡ 0 = omega arith in
        let same : ok ≡ samples_agree t w (count_in w) 0 0 = sym (and-end ok) ∙ rw n at h.rest in
        let last : j ≡ sum (values_of 11 (count_in w) w) = omega (arith, h.pairs, pairs_end w (count_in w) i le) in
        sym (and_is ok (leb all payload_most)) ∙ rw (same, h.bytes, last)

-- ---- the whole test

module _ (t : Track) (w : List ℕ) where
  pub sums-paired : has 11 w ≡ true → (r : Bool)
      → r ≡ (samples_agree t w (count_in w) 0 0 and leb (pair_bytes w 0 (sum (values_of 11 (count_in w) w))) payload_most) → r ≡ sizes_agree t w
  unfolding sizes_agree
  sums-paired h r e = e ∙ rw h

  pub sums-told : has 11 w ≡ false → (n : ℕ) → n ≡ told_sum t w → leb n payload_most ≡ sizes_agree t w
  unfolding sizes_agree
  sums-told h n e = rw (h, e)
