-- What the words of a set say of a field that stands: its mark, the sizes that id 1 lists, and the subsample counts. Assumes nothing.
use Prim.Native.Nat.{ℕ, suc, ◌+◌, ◌-◌, ◌≤◌, ◌<◌}
use native.Mathlib.Nat.{add-suc}
use native.Mathlib.Numerals.{add-one}
use native.Mathlib.Omega.{arith}
use mathlib.Core.Path.{◌≡◌, refl, ◌∙◌, ap}
use mathlib.Core.Bool.{Bool, true, false, cond, not}
use mathlib.Core.List.{List, []}
use borrow.Author.Tests.{ne_eqb, not-true}
use lib.Dec.{eqb}
use lib.ListN.{length, get_or}
use lib.Seq.{slice, slice-cons}
use Rattle.constants.specs.Maxima.{samples_most}
use Rattle.laws.specs.Tests.{sum}
use Rattle.laws.proofs.SliceLaws.{slice-none}
use Rattle.field_table.specs.Lines.{lines, line_for, set_len, subsamples_at, sizes_at}
use Rattle.field_set.specs.Lawful.{has, in_use, value_at, count_in, values_of}

-- a field stands where its mark is not 0
pub has_no : (id : ℕ) (w : List ℕ) → get_or w (line_for id lines).place 0 ≡ 0 → has id w ≡ false
unfolding has
has_no id w e = rw e

pub has-yes : (id : ℕ) (w : List ℕ) → (get_or w (line_for id lines).place 0 ≡ 0 → ⊥) → has id w ≡ true
unfolding has
has-yes id w h = rw (ne_eqb _ _ h)

-- a field that doesn't stand has no values, and one that stands has those behind its mark
pub values-none : (id n : ℕ) (w : List ℕ) → get_or w (line_for id lines).place 0 ≡ 0 → values_of id n w ≡ []
unfolding values_of in_use
values-none id n w e = rw e (slice-none ((line_for id lines).place + 1) ((line_for id lines).place + 1 + 0) w (omega arith))

pub values-all : (id n : ℕ) (w : List ℕ) → (get_or w (line_for id lines).place 0 ≡ 0 → ⊥)
    → values_of id n w ≡ slice ((line_for id lines).place + 1) ((line_for id lines).place + 1 + n) w
unfolding values_of in_use
values-all id n w h = rw (ne_eqb (get_or w (line_for id lines).place 0) 0 h)

-- the words of id 1
pub listed : (w : List ℕ) → 1 < count_in w → has 1 w ≡ true → values_of 1 (count_in w - 1) w ≡ slice (sizes_at + 1) (sizes_at + count_in w) w
unfolding has values_of in_use lines line_for
listed w many h =
    let e : (sizes_at + 1) + (count_in w - 1) ≡ sizes_at + count_in w = omega arith in
    rw (not-true (eqb (get_or w sizes_at 0) 0) h) (ap (λ (to : ℕ). slice (sizes_at + 1) to w) e)

-- the subsamples of the samples from the number i up to n
unfoldable pub pairs_left : List ℕ → ℕ → ℕ → ℕ
pairs_left w n i = sum (slice ((subsamples_at + 1) + i) ((subsamples_at + 1) + in_use (get_or w subsamples_at 0) n) w)

pub pairs-all : (w : List ℕ) (n : ℕ) → pairs_left w n 0 ≡ sum (values_of 11 n w)
unfolding pairs_left values_of line_for lines
pairs-all w n = refl

used_le : (b : Bool) (n : ℕ) → cond b 0 n ≤ n
used_le true n = omega arith
used_le false n = omega arith

pub pairs_end : (w : List ℕ) (n i : ℕ) → n ≤ i → pairs_left w n i ≡ 0
unfolding pairs_left in_use sum
pairs_end w n i h =
    ap sum (slice-none ((subsamples_at + 1) + i) ((subsamples_at + 1) + cond (eqb (get_or w subsamples_at 0) 0) 0 n) w (omega (arith, used_le (eqb (get_or w subsamples_at 0) 0) n)))

module _ (w : List ℕ) (n i : ℕ) (long : length w ≡ set_len) (few : n ≤ samples_most) (lt : i < n) where
  next_of : (b : Bool) → sum (slice ((subsamples_at + 1) + i) ((subsamples_at + 1) + cond b 0 n) w) ≡ cond (not b) (get_or w ((subsamples_at + 1) + i) 0) 0 + sum (slice (suc ((subsamples_at + 1) + i)) ((subsamples_at + 1) + cond b 0 n) w)
  unfolding sum
  next_of true = rw (slice-none ((subsamples_at + 1) + i) (subsamples_at + 1) w (omega arith), slice-none (suc ((subsamples_at + 1) + i)) (subsamples_at + 1) w (omega arith))
  next_of false = rw (slice-cons ((subsamples_at + 1) + i) ((subsamples_at + 1) + n) w 0 (omega arith) (omega arith))

  -- those of the sample i, and those after it
  pub pairs_next : pairs_left w n i ≡ cond (has 11 w) (value_at 11 i w) 0 + pairs_left w n (suc i)
  unfolding pairs_left in_use has line_for lines
  pairs_next = next_of (eqb (get_or w subsamples_at 0) 0) ∙ rw (← add-suc (subsamples_at + 1) i)

  -- a loop that counts them: j before the sample i, and c in it
  pub pairs-on : (j most : ℕ) {c : ℕ} → c ≡ cond (has 11 w) (value_at 11 i w) 0 → j + pairs_left w n i ≤ most → j + c + pairs_left w n (i + 1) ≤ most
  pairs-on j most e h = rw (add-one i) (omega (arith, pairs_next))
