-- The sizes that a set gives its samples add up to the payload, if they pass the test that the receiver puts to them. Assumes nothing.
use Prim.Native.Nat.{ℕ, zero, suc, ◌+◌, ◌-◌, ◌*◌, ◌≤◌, ◌<◌}
use native.Mathlib.Nat.{suc-mul}
use native.Mathlib.Omega.{arith}
use mathlib.Core.Path.{◌≡◌, refl, sym, ◌∙◌, ap}
use mathlib.Core.Bool.{Bool, true, false, cond}
use mathlib.Core.List.{List}
use borrow.Author.Tests.{eqb-true, le-leb, lt-leb, lt-ltb, le-ltb}
use lib.Dec.{ltb}
use lib.ListN.{length, get_or}
use lib.Seq.{slice}
use Rattle.constants.specs.Maxima.{samples_most, payload_most}
use Rattle.laws.specs.Tests.{sum}
use Rattle.laws.proofs.SliceLaws.{slice-none, slice-join}
use Rattle.laws.proofs.TestLaws.{sum-append, sum-next}
use Rattle.track.specs.declared.Track.{Track}
use Rattle.field_table.specs.Lines.{lines, line_for, set_len, sizes_at}
use Rattle.field_set.specs.Lawful.{has, value_at, count_in, values_of}
use Rattle.field_set.proofs.ValueLaws.{listed}
use Rattle.told_sizes.specs.Told.{same_size}
use Rattle.effective.specs.Sizes.{size_of}
use Rattle.effective.specs.Sums.{sizes_ok}
use Rattle.effective.proofs.SumLaws.{sizes-none, sizes-default, sizes-trex, sizes-sized}

-- words, and one more behind them
pub sum-behind : (w : List ℕ) (from i : ℕ) → from ≤ i → i < length w → sum (slice from (i + 1) w) ≡ sum (slice from i w) + get_or w i 0
unfolding sum
sum-behind w from i a b =
    let z : sum (slice (i + 1) (i + 1) w) ≡ 0 = ap sum (slice-none (i + 1) (i + 1) w (omega arith)) in
    ap sum (slice-join from i (i + 1) w a (omega arith) (omega arith))
    ∙ sum-append (slice from i w) (slice i (i + 1) w)
    ∙ omega (arith, sum-next w i (i + 1) (omega arith) (omega arith), z)

-- where id 1 has a sample's size
size-at : (w : List ℕ) (i : ℕ) → value_at 1 i w ≡ get_or w (3 + i) 0
unfolding lines line_for
size-at w i = refl

module _ (t : Track) (w : List ℕ) (payload : ℕ) where
  -- the sizes of the first i samples
  unfoldable pub sizes_before : ℕ → ℕ
  sizes_before zero = 0
  sizes_before (suc i) = sizes_before i + size_of t w payload i

  -- what id 1 lists
  abbrev before : ℕ
  before = sum (values_of 1 (count_in w - 1) w)

  -- one sample has all of the payload
  one_size : count_in w ≤ 1 → size_of t w payload 0 ≡ payload
  unfolding size_of
  one_size h = rw (le-leb (count_in w) 1 h)

  -- one of several
  pub size_is : 1 < count_in w → (i : ℕ) → size_of t w payload i ≡ cond (has 1 w) (cond (ltb i (count_in w - 1)) (value_at 1 i w) (payload - before)) (same_size t w)
  unfolding size_of
  size_is many i = rw (lt-leb (count_in w) 1 many)

  -- all but the last, where they are listed
  listed-sum : length w ≡ set_len → count_in w ≤ samples_most → 1 < count_in w → has 1 w ≡ true → (i : ℕ) → i < count_in w → sizes_before i ≡ sum (slice (sizes_at + 1) (sizes_at + 1 + i) w)
  unfolding sizes_before sum
  listed-sum long few many e zero lt = sym (ap sum (slice-none 3 3 w (omega arith)))
  listed-sum long few many e (suc i) lt =
      let v : size_of t w payload i ≡ get_or w (3 + i) 0 = size_is many i ∙ rw (e, lt-ltb i (count_in w - 1) (omega arith)) (size-at w i) in
      let n : 3 + suc i ≡ 3 + i + 1 = omega arith in
      omega (arith, listed-sum long few many e i (omega arith), v, sum-behind w 3 (3 + i) (omega arith) (omega (arith, long)), ap (λ (to : ℕ). sum (slice 3 to w)) n)

  -- as many of one size
  same_sum : 1 < count_in w → has 1 w ≡ false → (i : ℕ) → sizes_before i ≡ i * same_size t w
  unfolding sizes_before
  same_sum many e zero = omega arith
  same_sum many e (suc i) =
      let z : size_of t w payload i ≡ same_size t w = size_is many i ∙ rw e in
      omega (arith, same_sum many e i, z, suc-mul i (same_size t w))

  -- all of them
  pub sizes-add : length w ≡ set_len → count_in w ≤ samples_most → payload ≤ payload_most → sizes_ok t w payload ≡ true → sizes_before (count_in w) ≡ payload
  unfolding sizes_before
  sizes-add long few short ok = by (count_in w) refl
    where
      by : (n : ℕ) → count_in w ≡ n → sizes_before n ≡ payload
      by zero q = sym (eqb-true payload 0 (sizes-none t w payload q ∙ ok))
      by (suc zero) q = omega (arith, one_size (omega arith))
      by (suc (suc k)) q = go (has 1 w) refl
        where
          many : 1 < count_in w
          many = omega arith

          same : (b : Bool) → has 1 w ≡ false → has 6 w ≡ b → count_in w * cond b (value_at 6 0 w) t.size ≡ payload
          same true e r = eqb-true _ _ (sizes-default t w payload (λ z. omega arith) (λ z. omega arith) e r ∙ ok)
          same false e r = eqb-true _ _ (sizes-trex t w payload (λ z. omega arith) (λ z. omega arith) e r ∙ ok)

          go : (b : Bool) → has 1 w ≡ b → sizes_before (suc (suc k)) ≡ payload
          go true e =
              let z : size_of t w payload (suc k) ≡ payload - before = size_is many (suc k) ∙ rw (e, le-ltb (suc k) (count_in w - 1) (omega arith)) in
              let n : 3 + suc k ≡ 2 + count_in w = omega arith in
              omega (arith, listed-sum long few many e (suc k) (omega arith), ap (λ (to : ℕ). sum (slice 3 to w)) n, ap sum (listed w many e), z, (sizes-sized t w payload ok short).sizes)
          go false e = same_sum many e (suc (suc k)) ∙ ap (λ (n : ℕ). n * same_size t w) (sym q) ∙ same (has 6 w) e refl
