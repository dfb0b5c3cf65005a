-- The protected bytes of a sample, case by case as code finds them. Assumes nothing.
use Prim.Native.Nat.{ℕ, ◌+◌, ◌-◌, ◌^◌, ◌≤◌, ◌<◌}
use native.Mathlib.Omega.{arith}
use mathlib.Core.Path.{◌≡◌, sym, ◌∙◌, ap}
use mathlib.Core.Bool.{true, false, not, ◌&&◌}
use mathlib.Core.List.{List}
use borrow.Author.Tests.{not-true, lt-ltb, eqb-false}
use lib.Dec.{eqb, leb}
use lib.ListN.{length, get_or}
use lib.Seq.{slice}
use Rattle.constants.specs.Maxima.{subsamples_most, payload_most}
use Rattle.laws.specs.Tests.{sum}
use Rattle.laws.proofs.TestLaws.{and_right, sum-next}
use Rattle.track.specs.declared.Track.{Track}
use Rattle.track.specs.Track.{cenc}
use Rattle.field_table.specs.Lines.{lines, line_for, sizes_at, subsamples_at, protected_at}
use Rattle.field_set.specs.Lawful.{has, value_at, count_in, values_of, lawful}
use Rattle.field_set.proofs.RuleLaws.{ruled}
use Rattle.told_sizes.specs.Sums.{bytes_of, Summable}
use Rattle.told_sizes.specs.Told.{may_have}
use Rattle.told_sizes.proofs.SumLaws.{part-most, protected-small}
use Rattle.effective.specs.Sizes.{size_of, last_size}
use Rattle.effective.proofs.SizesAdd.{size_is}
use Rattle.counters.proofs.LastLaws.{values-stand, last-pairs}
use Rattle.counters.specs.Protected.{protected_of, counted, last_pairs, last_bytes, last_protected, last_fits}

-- ---- of a sample that isn't the last

-- a size that id 1 lists is small
pub listed_small : {w : List ℕ} → Summable w → (i : ℕ) → i + 1 < count_in w → get_or w (sizes_at + 1 + i) 0 ≤ 2 ^ 48
unfolding lines line_for
listed_small {w} s i h =
    let at : ℕ = sizes_at + 1 + i in
    let l : at + 1 ≤ length w = omega (arith, s.words, s.few) in
    let most = part-most 0xffff_ffff 3 66 at (at + 1) w s.sizes (omega (arith, s.words)) (omega arith) (omega arith) (omega (arith, s.few)) in
    omega (arith, most, sum-next w at (at + 1) (omega arith) l)

-- its size
module _ (t : Track) (w : List ℕ) (payload i : ℕ) (early : i + 1 < count_in w) where
  -- as id 1 lists it
  pub size-listed : has 1 w ≡ true → value_at 1 i w ≡ size_of t w payload i
  size-listed h = rw (size_is t w payload (omega arith) i, h, lt-ltb i (count_in w - 1) (omega arith))

  -- that of all samples
  pub size-default : has 1 w ≡ false → has 6 w ≡ true → value_at 6 0 w ≡ size_of t w payload i
  size-default h g = rw (size_is t w payload (omega arith) i, h, g)

  -- by trex
  pub size-trex : has 1 w ≡ false → has 6 w ≡ false → t.size ≡ size_of t w payload i
  size-trex h g = rw (size_is t w payload (omega arith) i, h, g)

module _ (t : Track) (w : List ℕ) (payload i j : ℕ) where
  -- by its subsamples
  pub own-pairs : has 11 w ≡ true → (r : ℕ) → r ≡ sum (slice (protected_at + 1 + j) (protected_at + 1 + j + value_at 11 i w) w) → r ≡ protected_of t w payload i j
  unfolding protected_of bytes_of lines line_for
  own-pairs on r e = e ∙ rw on

  -- by its size
  pub own-size : has 11 w ≡ false → (r : ℕ) → r ≡ size_of t w payload i → r ≡ protected_of t w payload i j
  unfolding protected_of
  own-size off r e = e ∙ rw off

-- ---- of the last sample, by its subsamples

module _ {w : List ℕ} (s : Summable w) (on : has 11 w ≡ true) where
  -- all subsamples, as code counts them
  pub pairs-are : sum (slice (subsamples_at + 1) (subsamples_at + 1 + count_in w) w) ≡ sum (values_of 11 (count_in w) w)
  pairs-are = ap sum (sym (values-stand w (count_in w) on))

  module _ (some : 1 ≤ count_in w) (pairs : ℕ) (all : pairs ≡ sum (values_of 11 (count_in w) w)) where
    abbrev own : ℕ
    own = get_or w (subsamples_at + count_in w) 0

    -- its own are the last of them
    own-last : last_pairs w + own ≡ pairs
    unfolding lines line_for
    own-last =
        let at : subsamples_at + 1 + (count_in w - 1) ≡ subsamples_at + count_in w = omega arith in
        rw at at (last-pairs s on some) ∙ sym all

    pub own-few : own ≤ pairs
    own-few = omega (arith, own-last)

    pub pairs-few : pairs ≤ subsamples_most
    pairs-few = omega (arith, all, s.subsamples)

    -- they aren't many bytes
    pub own-small : sum (slice (protected_at + 1 + pairs - own) (protected_at + 1 + pairs) w) < 2 ^ 64
    own-small =
        let from : protected_at + 1 + pairs - own ≡ protected_at + 1 + last_pairs w = omega (arith, own-last) in
        let to : protected_at + 1 + pairs ≡ protected_at + 1 + last_pairs w + own = omega (arith, own-last) in
        rw (from, to) (omega (arith, protected-small s (last_pairs w) own (omega (arith, own-last, pairs-few))))

    -- what code adds up
    pub last-is : (r : ℕ) → r ≡ sum (slice (protected_at + 1 + pairs - own) (protected_at + 1 + pairs) w) → r ≡ last_bytes w
    unfolding last_bytes bytes_of lines line_for
    last-is r e =
        let at : subsamples_at + 1 + (count_in w - 1) ≡ subsamples_at + count_in w = omega arith in
        let from : protected_at + 1 + pairs - own ≡ protected_at + 1 + last_pairs w = omega (arith, own-last) in
        let to : protected_at + 1 + pairs ≡ protected_at + 1 + last_pairs w + own = omega (arith, own-last) in
        rw (from, to) at e ∙ rw at

-- ---- of a chunk's last sample

module _ (t : Track) (w : List ℕ) (law : lawful t w ≡ true) where
  -- id 9 stands where there are IVs to be counted
  stands : has 9 w ≡ counted t w
  stands = (ruled t w law).ivs

  -- then there are samples
  pub some-samples : has 9 w ≡ true → 1 ≤ count_in w
  some-samples h =
      let no : count_in w ≡ 0 → ⊥ = eqb-false (count_in w) 0 (not-true (eqb (count_in w) 0) (and_right (eqb t.protection cenc) (not (eqb (count_in w) 0)) (sym stands ∙ h))) in
      omega arith

  -- none
  pub none_last : (payload : ℕ) → has 9 w ≡ false → 0 ≡ last_protected t w payload
  unfolding last_protected
  none_last payload h = rw (sym stands ∙ h)

  pub none-fits : (last : ℕ) → has 9 w ≡ false → eqb last 0 ≡ last_fits t w last
  unfolding last_fits
  none-fits last h = rw (sym stands ∙ h)

  module _ (on : has 9 w ≡ true) where
    -- by its subsamples
    pub paired-last : (payload : ℕ) → has 11 w ≡ true → last_bytes w ≡ last_protected t w payload
    unfolding last_protected protected_of last_bytes
    paired-last payload h = rw (sym stands ∙ on, h)

    pub paired-fits : (last : ℕ) → has 11 w ≡ true → eqb last (last_bytes w) ≡ last_fits t w last
    unfolding last_fits
    paired-fits last h = rw (sym stands ∙ on, h)

    -- by its size
    pub whole-last : (payload : ℕ) → has 11 w ≡ false → last_size t w payload ≡ last_protected t w payload
    unfolding last_protected protected_of last_size
    whole-last payload h = rw (sym stands ∙ on, h)

    pub whole-fits : (last : ℕ) → has 11 w ≡ false → (leb last payload_most && may_have t w (count_in w - 1) last) ≡ last_fits t w last
    unfolding last_fits
    whole-fits last h = rw (sym stands ∙ on, h)
