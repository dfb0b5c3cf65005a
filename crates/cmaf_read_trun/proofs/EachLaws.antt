-- What a function says of the numbers from one on: its length, its parts, and the loops that store it and add it up. Assumes nothing.
use Prim.Native.Nat.{ℕ, zero, suc, ◌+◌, ◌-◌, ◌*◌, ◌^◌, ◌≤◌, ◌<◌}
use native.Mathlib.Nat.{zero-add, add-zero, sub-zero, not-suc-le-zero, le_of_suc-le-suc}
use native.Mathlib.Numerals.{add-one}
use native.Mathlib.Omega.{arith}
use mathlib.Core.Path.{◌≡◌, refl, sym, ◌∙◌, ap, ap₂}
use mathlib.Core.Bool.{true}
use mathlib.Core.List.{List, [], ◌∷◌, ◌++◌, map}
use lib.ListN.{length, get_or, set, take, length-set}
use lib.Seq.{sets}
use Rattle.laws.specs.Tests.{sum}
use Rattle.laws.proofs.TestLaws.{sum-append}
use Rattle.cmaf_read_trun.specs.declared.rows.Run.{Run}
use Rattle.cmaf_read_trun.specs.Rows.{has_column, cell}
use Rattle.cmaf_read_trun.specs.Samples.{each_from, column_of}

-- one for each number
pub each-length : (f : ℕ → ℕ) (k i : ℕ) → length (each_from f k i) ≡ k
unfolding each_from
each-length f zero i = refl
each-length f (suc k) i = ap suc (each-length f k (suc i))

-- the first, and those after it
pub each-here : (f : ℕ → ℕ) (n i : ℕ) → i < n → each_from f (n - i) i ≡ f i ∷ each_from f (n - (i + 1)) (suc i)
unfolding each_from
each-here f n i h = let e : n - i ≡ suc (n - (i + 1)) = omega arith in rw e

-- none is left
pub each_none : (f : ℕ → ℕ) (n i : ℕ) → n ≤ i → each_from f (n - i) i ≡ []
unfolding each_from
each_none f n i h = let e : n - i ≡ 0 = omega arith in rw e

-- the very first
pub each_first : (f : ℕ → ℕ) (k : ℕ) → 0 < k → get_or (each_from f k 0) 0 0 ≡ f 0
unfolding each_from
each_first f zero h = absurd (not-suc-le-zero h)
each_first f (suc k) h = refl

-- the values of another function on them
pub each_map : (g f : ℕ → ℕ) (k i : ℕ) → map g (each_from f k i) ≡ each_from (λ j. g (f j)) k i
unfolding each_from
each_map g f zero i = refl
each_map g f (suc k) i = ap (λ (l : List ℕ). g (f i) ∷ l) (each_map g f k (suc i))

-- some of them from the front
pub each_take : (f : ℕ → ℕ) (j k i : ℕ) → j ≤ k → take j (each_from f k i) ≡ each_from f j i
unfolding each_from
each_take f zero zero i h = refl
each_take f zero (suc k) i h = refl
each_take f (suc j) zero i h = absurd (not-suc-le-zero h)
each_take f (suc j) (suc k) i h = ap (λ (l : List ℕ). f i ∷ l) (each_take f j k (suc i) (le_of_suc-le-suc h))

-- one of them
pub each_at : (f : ℕ → ℕ) (k i j : ℕ) → j < k → get_or (each_from f k i) j 0 ≡ f (i + j)
unfolding each_from
each_at f zero i j h = absurd (not-suc-le-zero h)
each_at f (suc k) i zero h = ap f (sym (add-zero i))
each_at f (suc k) i (suc j) h = let e : suc i + j ≡ i + suc j = omega arith in each_at f k (suc i) j (le_of_suc-le-suc h) ∙ ap f e

pub column-at : (c : List ℕ) (r : Run) (column i : ℕ) → i < r.count → has_column r column ≡ true → get_or (column_of c r column) i 0 ≡ cell c r column i
unfolding column_of
column-at c r column i lt h = rw h (each_at (cell c r column) r.count 0 i lt ∙ ap (cell c r column) (zero-add i))

-- the last
each_last : (f : ℕ → ℕ) (k i : ℕ) → each_from f (suc k) i ≡ each_from f k i ++ (f (i + k) ∷ [])
unfolding each_from
each_last f zero i = rw add-zero
each_last f (suc k) i = let e : suc i + k ≡ i + suc k = omega arith in ap (λ (l : List ℕ). f i ∷ l) (rw e at (each_last f k (suc i)))

pub sum-last : (f : ℕ → ℕ) (k i : ℕ) → sum (each_from f (suc k) i) ≡ sum (each_from f k i) + f (i + k)
unfolding sum
sum-last f k i = ap sum (each_last f k i) ∙ sum-append (each_from f k i) (f (i + k) ∷ []) ∙ rw add-zero

-- two functions that say the same of them
pub each_same : (f g : ℕ → ℕ) (k i : ℕ) → ((j : ℕ) → j < i + k → f j ≡ g j) → each_from f k i ≡ each_from g k i
unfolding each_from
each_same f g zero i h = refl
each_same f g (suc k) i h = ap₂ (λ (v : ℕ) (l : List ℕ). v ∷ l) (h i (omega arith)) (each_same f g k (suc i) (λ j lt. h j (omega arith)))

-- i of n values are stored from a place on; the rest of them gives the whole
pub record Storing (f : ℕ → ℕ) (x₀ : List ℕ) (from n : ℕ) (x : List ℕ) (i : ℕ) : Type 0 where
  pub room : from + n ≤ length x₀
  pub same : length x ≡ length x₀
  pub left : sets x (from + i) (each_from f (n - i) i) ≡ sets x₀ from (each_from f n 0)

module _ (f : ℕ → ℕ) (x₀ : List ℕ) (from n : ℕ) where
  pub store-start : from + n ≤ length x₀ → Storing f x₀ from n x₀ 0
  store-start h = record { room = h; same = refl; left = rw (add-zero, sub-zero) }

  module _ (x : List ℕ) (i : ℕ) (h : Storing f x₀ from n x i) where
    pub store-end : n ≤ i → x ≡ sets x₀ from (each_from f n 0)
    store-end k = rw (each_none f n i k) at h.left

    pub store-next : i < n → (v : ℕ) → v ≡ f i → Storing f x₀ from n (set x (from + i) v) (i + 1)
    store-next lt v e =
        let p : from + (i + 1) ≡ suc (from + i) = omega arith in
        record {
          room = h.room;
          same = length-set x (from + i) v ∙ h.same;
          left = rw (p, e, add-one) (rw (each-here f n i lt, add-one) at h.left);
        }

-- the numbers before i are added up: their sum, and that of those left, is the whole; and it is small, as each of them has 32 bits
pub record Summed (f : ℕ → ℕ) (n s i : ℕ) : Type 0 where
  pub here : i ≤ n
  pub small : s ≤ i * 2 ^ 32
  pub whole : s + sum (each_from f (n - i) i) ≡ sum (each_from f n 0)

module _ (f : ℕ → ℕ) where
  -- none is added yet
  pub sum-start : (n : ℕ) → Summed f n 0 0
  sum-start n = record { here = omega arith; small = omega arith; whole = zero-add _ ∙ ap (λ (k : ℕ). sum (each_from f k 0)) (sub-zero n) }

  -- one more is added
  pub sum-next : {n s i : ℕ} → Summed f n s i → i < n → (v : ℕ) → v ≡ f i → v < 2 ^ 32 → Summed f n (s + v) (i + 1)
  unfolding sum each_from
  sum-next {n} {s} {i} t h v e l =
      let m : sum (each_from f (n - i) i) ≡ v + sum (each_from f (n - (i + 1)) (i + 1)) =
      ap sum (each-here f n i h) ∙ ap₂ (λ (x j : ℕ). x + sum (each_from f (n - (i + 1)) j)) (sym e) (sym (add-one i)) in
      record { here = omega arith; small = omega arith; whole = omega arith }

  -- all are added
  pub sum-end : {n s i : ℕ} → Summed f n s i → n ≤ i → s ≡ sum (each_from f n 0)
  unfolding sum each_from
  sum-end {n} {s} {i} t h = sym (add-zero s) ∙ ap (λ (x : List ℕ). s + sum x) (sym (each_none f n i h)) ∙ t.whole
