-- The columns of a run as rows of tests, and the sum of its sizes. Assumes nothing.
use Prim.Native.Nat.{ℕ}
use mathlib.Core.Path.{◌≡◌, refl, sym, ◌∙◌, ap}
use mathlib.Core.Bool.{Bool, true, false}
use mathlib.Core.List.{List, [], ◌∷◌}
use lib.Dec.{leb}
use Rattle.laws.specs.Tests.{◌and◌, all_le, sum}
use Rattle.laws.proofs.RowLaws.{Row}
use Rattle.media.specs.Flags.{only}
use Rattle.cmaf_read_trun.specs.declared.rows.Run.{Run}
use Rattle.cmaf_read_trun.specs.Rows.{has_column, cell, size_at}
use Rattle.cmaf_read_trun.specs.Samples.{each_from, column_of, sizes_of}
use Rattle.cmaf_read_trun.specs.Columns.{all_by, all_only}

-- the row of a test
pub test-row : (holds : ℕ → Bool) (f : ℕ → ℕ) → Row (λ i. holds (f i)) (λ k i. all_by holds (each_from f k i))
unfolding all_by each_from
test-row holds f = record { none = λ i. refl; more = λ k i. refl }

-- that of flags, each with only the three fields
pub flags-row : (f : ℕ → ℕ) → Row (λ i. only (f i)) (λ k i. all_only (each_from f k i))
unfolding all_only each_from
flags-row f = record { none = λ i. refl; more = λ k i. refl }

-- the tests of the rules: flags with only the three fields, and numbers within a bound
pub by-only : (l : List ℕ) → all_by only l ≡ all_only l
unfolding all_by all_only
by-only [] = refl
by-only (x ∷ xs) = ap (λ (t : Bool). only x and t) (by-only xs)

pub by-bound : (b : ℕ) (l : List ℕ) → all_by (λ x. leb x b) l ≡ all_le b l
unfolding all_by all_le
by-bound b [] = refl
by-bound b (x ∷ xs) = ap (λ (t : Bool). leb x b and t) (by-bound b xs)

module _ (c : List ℕ) (r : Run) (column : ℕ) where
  -- a column that doesn't stand has nothing, and one that stands a cell for each sample
  pub column-none : has_column r column ≡ false → column_of c r column ≡ []
  unfolding column_of
  column-none h = simp h

  pub column-some : has_column r column ≡ true → column_of c r column ≡ each_from (cell c r column) r.count 0
  unfolding column_of
  column-some h = simp h

  -- what doesn't stand breaks no rule; and of n samples each is asked
  module _ (holds : ℕ → Bool) where
    pub tests-none : has_column r column ≡ false → true ≡ all_by holds (column_of c r column)
    unfolding all_by
    tests-none h = sym (ap (all_by holds) (column-none h))

    pub tests-some : {n : ℕ} {ok : Bool} → n ≡ r.count → has_column r column ≡ true → ok ≡ all_by holds (each_from (cell c r column) n 0)
        → ok ≡ all_by holds (column_of c r column)
    tests-some n h e = e ∙ ap (λ (k : ℕ). all_by holds (each_from (cell c r column) k 0)) n ∙ sym (ap (all_by holds) (column-some h))

-- the sizes of a run of n samples
pub sizes-summed : (c : List ℕ) (r : Run) (default n : ℕ) → n ≡ r.count → sum (each_from (size_at c r default) n 0) ≡ sum (sizes_of c r default)
unfolding sizes_of
sizes-summed c r default n e = ap (λ (k : ℕ). sum (each_from (size_at c r default) k 0)) e
