-- The values of a field by their places in the set, and how many subsamples some samples have. Assumes nothing.
use Prim.Native.Nat.{ℕ, zero, suc, ◌+◌, ◌≤◌}
use native.Mathlib.Nat.{add-zero}
use native.Mathlib.Omega.{arith}
use mathlib.Core.Path.{◌≡◌, refl, sym, ◌∙◌, ap, ap₂}
use mathlib.Core.List.{List, [], ◌∷◌, ◌++◌}
use lib.ListN.{length}
use lib.Seq.{slice, slice-cons, slice_empty}
use Rattle.laws.specs.Tests.{sum}
use Rattle.field_table.specs.Lines.{lines, line_for, set_len}
use Rattle.field_set.specs.Lawful.{has, values_of, value_at}
use Rattle.boxes.specs.Box.{flag_when}
use Rattle.field_set.proofs.ValueLaws.{pairs_left, pairs-all, pairs_end, pairs_next}
use Rattle.cmaf_read_trun.specs.Samples.{each_from}

-- a field that stands: k values from the number i on
unfoldable pub values_from : ℕ → List ℕ → ℕ → ℕ → List ℕ
values_from id w zero i = []
values_from id w (suc k) i = value_at id i w ∷ values_from id w k (suc i)

pub values-append : (id : ℕ) (w : List ℕ) (k m i : ℕ) → values_from id w k i ++ values_from id w m (i + k) ≡ values_from id w (k + m) i
unfolding values_from
values-append id w zero m i =
    let z : 0 + m ≡ m = omega arith in rw (add-zero i, z)
values-append id w (suc k) m i =
    let a : i + suc k ≡ suc i + k = omega arith in
    let b : suc k + m ≡ suc (k + m) = omega arith in
    rw (a, b) (ap (λ (l : List ℕ). value_at id i w ∷ l) (values-append id w k m (suc i)))

-- how many subsamples the sample with the number i has
abbrev pub pairs_of : List ℕ → ℕ → ℕ
pairs_of w i = flag_when (has 11 w) (value_at 11 i w)

-- the values of a field, by their places
pub values-slice : (id : ℕ) (w : List ℕ) (k i : ℕ) → (line_for id lines).place + 1 + i + k ≤ length w
    → values_from id w k i ≡ slice ((line_for id lines).place + 1 + i) ((line_for id lines).place + 1 + i + k) w
unfolding values_from
values-slice id w zero i h = sym (rw (add-zero ((line_for id lines).place + 1 + i)) (slice_empty ((line_for id lines).place + 1 + i) w))
values-slice id w (suc k) i h =
    let p : ℕ = (line_for id lines).place + 1 in
    let a : p + suc i ≡ suc (p + i) = omega arith in
    let b : p + suc i + k ≡ p + i + suc k = omega arith in
    sym
    (slice-cons (p + i) (p + i + suc k) w 0 (omega arith) h
    ∙ ap (λ (l : List ℕ). value_at id i w ∷ l) (sym (values-slice id w k (suc i) (omega arith) ∙ ap₂ (λ (m n : ℕ). slice m n w) a b)))

-- and as what a function says
pub values-each : (id : ℕ) (w : List ℕ) (k i : ℕ) → each_from (λ j. value_at id j w) k i ≡ values_from id w k i
unfolding each_from values_from
values-each id w zero i = refl
values-each id w (suc k) i = ap (λ (l : List ℕ). value_at id i w ∷ l) (values-each id w k (suc i))

-- the subsamples of k samples from the number i on
unfoldable pub pairs_from : List ℕ → ℕ → ℕ → ℕ
pairs_from w zero i = 0
pairs_from w (suc k) i = flag_when (has 11 w) (value_at 11 i w) + pairs_from w k (suc i)

-- those of all
pairs-left : (w : List ℕ) (n : ℕ) → length w ≡ set_len → n ≤ 64 → (k i : ℕ) → i + k ≡ n → pairs_from w k i ≡ pairs_left w n i
unfolding pairs_from
pairs-left w n long few zero i e = sym (pairs_end w n i (omega arith))
pairs-left w n long few (suc k) i e =
    ap (λ (m : ℕ). pairs_of w i + m) (pairs-left w n long few k (suc i) (omega arith)) ∙ sym (pairs_next w n i long few (omega arith))

pub pairs-sum : (w : List ℕ) (n : ℕ) → length w ≡ set_len → n ≤ 64 → pairs_from w n 0 ≡ sum (values_of 11 n w)
pairs-sum w n long few = pairs-left w n long few n 0 (omega arith) ∙ pairs-all w n
