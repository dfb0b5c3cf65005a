-- The sizes of the samples: whether they are equal, and what is stored of them. Assumes nothing.
use Prim.Native.Nat.{ℕ, zero, suc, ◌+◌, ◌-◌, ◌*◌, ◌≤◌, ◌<◌}
use native.Mathlib.Nat.{zero-mul, suc-mul}
use native.Mathlib.Numerals.{add-one}
use native.Mathlib.Omega.{arith}
use mathlib.Core.Path.{◌≡◌, refl, sym, ◌∙◌, ap}
use mathlib.Core.Bool.{Bool, true, false, false≢true, not, ◌&&◌, ◌||◌}
use mathlib.Core.List.{List, [], ◌∷◌}
use borrow.Author.Tests.{eqb-true, eq-eqb, ltb-true, ltb-false, le-leb, lt-leb}
use lib.Dec.{eqb, leb, ltb}
use lib.ListN.{length, get_or, set, take}
use lib.Seq.{sets}
use Rattle.field_table.specs.Lines.{sizes_at, size_at as size_place}
use Rattle.laws.specs.Tests.{◌and◌, sum}
use Rattle.laws.proofs.RowLaws.{Row, row-each}
use Rattle.laws.proofs.TestLaws.{left, right, and-next, and-end, both}
use Rattle.cmaf_read_trun.specs.declared.rows.Run.{Run}
use Rattle.cmaf_read_trun.specs.Rows.{size_at}
use Rattle.cmaf_read_trun.specs.Samples.{each_from, sizes_of}
use Rattle.field_rules.specs.Fields.{words_of}
use Rattle.cmaf_read_samples.specs.Held.{held_if}
use Rattle.cmaf_read_samples.specs.Sizes.{all_same}
use Rattle.cmaf_read_trun.proofs.EachLaws.{each-here, each_none, each_first, each_take}
use Rattle.cmaf_read_samples.proofs.CellLaws.{not-stored, list-stored}

-- ---- numbers that are all equal

-- each of them
pub same-each : (f : ℕ → ℕ) (v k i j : ℕ) → all_same v (each_from f k i) ≡ true → j < k → f (i + j) ≡ v
unfolding each_from all_same
same-each f v k i j e lt =
    let row : Row (λ n. eqb (f n) v) (λ m n. all_same v (each_from f m n)) = record { none = λ n. refl; more = λ m n. refl } in
    eqb-true _ _ (row-each row k i j e lt)

-- their sum
pub same_sum : (v : ℕ) (l : List ℕ) → all_same v l ≡ true → sum l ≡ length l * v
unfolding all_same sum
same_sum v [] e = sym (zero-mul v)
same_sum v (x ∷ l) e =
    let a : x ≡ v = eqb-true _ _ (left _ _ e) in
    omega (arith, a, suc-mul (length l) v, same_sum v l (right _ _ e))

-- ---- whether all are equal

-- a function that says the same of all numbers
pub same-all : (f : ℕ → ℕ) (v : ℕ) → ((i : ℕ) → f i ≡ v) → (k i : ℕ) → all_same v (each_from f k i) ≡ true
unfolding each_from all_same
same-all f v h zero i = refl
same-all f v h (suc k) i = both _ _ (eq-eqb _ _ (h i)) (same-all f v h k (suc i))

-- one number, or none
pub same-few : (f : ℕ → ℕ) (k : ℕ) → k ≤ 1 → all_same (f 0) (each_from f k 0) ≡ true
unfolding each_from all_same
same-few f zero h = refl
same-few f (suc zero) h = both _ _ (eq-eqb (f 0) (f 0) refl) refl
same-few f (suc (suc k)) h = absurd (omega arith)

-- those before i are the first one's: the rest decides
pub record Comparing (f : ℕ → ℕ) (n : ℕ) (ok : Bool) (i : ℕ) : Type 0 where
  pub left : (ok and all_same (f 0) (each_from f (n - i) i)) ≡ all_same (f 0) (each_from f n 0)

module _ (f : ℕ → ℕ) (n : ℕ) where
  pub compare-start : Comparing f n true 1
  unfolding all_same each_from ◌and◌
  compare-start = record { left = go n }
    where
      go : (n : ℕ) → (true and all_same (f 0) (each_from f (n - 1) 1)) ≡ all_same (f 0) (each_from f n 0)
      go zero = refl
      go (suc k) = let z : suc k - 1 ≡ k = omega arith in rw (z, eq-eqb (f 0) (f 0) refl)

  module _ (ok : Bool) (i : ℕ) (h : Comparing f n ok i) where
    pub compare-next : i < n → {v w : ℕ} → v ≡ f i → w ≡ f 0 → Comparing f n (ok && eqb v w) (i + 1)
    unfolding all_same
    compare-next lt p q =
        record {
          left =
              and-next ok _ _
              ∙ rw (p, q, add-one) (rw (each-here f n i lt, add-one) at h.left);
        }

    compare-last : n ≤ i → ok ≡ all_same (f 0) (each_from f n 0)
    unfolding all_same
    compare-last le = sym (and-end ok) ∙ rw (each_none f n i le) at h.left

-- the first of them is the one that all are compared with; where there is none nothing is
same_first : (f : ℕ → ℕ) (n : ℕ) → all_same (f 0) (each_from f n 0) ≡ all_same (get_or (each_from f n 0) 0 0) (each_from f n 0)
unfolding all_same each_from
same_first f zero = refl
same_first f (suc n) = refl

pub compare-end : (c : List ℕ) (r : Run) (default : ℕ) (ok : Bool) (i : ℕ) → Comparing (size_at c r default) r.count ok i → r.count ≤ i
    → ok ≡ all_same (get_or (sizes_of c r default) 0 0) (sizes_of c r default)
unfolding sizes_of
compare-end c r default ok i h le = compare-last (size_at c r default) r.count ok i h le ∙ same_first (size_at c r default) r.count

-- ---- several samples

-- two or more, by code's own test of the contrary
pub several : (n : ℕ) (b : Bool) → (ltb n 2 || b) ≡ false → 2 ≤ n
several n b h = ltb-false n 2 (or-false (ltb n 2) b h)
  where
    or-false : (a b : Bool) → (a || b) ≡ false → a ≡ false
    or-false true b h = h
    or-false false b h = refl

-- the two tests of code and definition are each other's contrary
several-is : (n : ℕ) → leb 2 n ≡ not (ltb n 2)
several-is n = by (ltb n 2) refl
  where
    by : (t : Bool) → ltb n 2 ≡ t → leb 2 n ≡ not t
    by true e = lt-leb 2 n (ltb-true n 2 e)
    by false e = le-leb 2 n (ltb-false n 2 e)

contrary : (a b : Bool) → (not a && not b) ≡ not (a || b)
contrary true b = refl
contrary false b = refl

-- several samples of unequal sizes
unequal : (n : ℕ) (b t : Bool) → (ltb n 2 || b) ≡ t → (leb 2 n && not b) ≡ not t
unequal n b t h = rw (several-is n) (contrary (ltb n 2) b ∙ ap not h)

-- several samples of one size: a further test decides
equal-stands : (n : ℕ) (b own : Bool) → (ltb n 2 || not b) ≡ false → (leb 2 n && (b && own)) ≡ own
equal-stands n b own h = rw (several-is n) (go (ltb n 2) b h)
  where
    go : (a b : Bool) → (a || not b) ≡ false → (not a && (b && own)) ≡ own
    go true b h = absurd (false≢true (sym h))
    go false true h = refl
    go false false h = absurd (false≢true (sym h))

equal-not : (n : ℕ) (b own : Bool) → (ltb n 2 || not b) ≡ true → (leb 2 n && (b && own)) ≡ false
equal-not n b own h = rw (several-is n) (go (ltb n 2) b h)
  where
    go : (a b : Bool) → (a || not b) ≡ true → (not a && (b && own)) ≡ false
    go true b h = refl
    go false true h = absurd (false≢true h)
    go false false h = refl

module _ (c : List ℕ) (r : Run) (default : ℕ) (equal : Bool) (x : List ℕ) where
  -- ---- of unequal sizes: all but the last

  pub sizes-none : (ltb r.count 2 || equal) ≡ true
      → x ≡ sets x sizes_at (words_of (held_if (leb 2 r.count && not equal) (take (r.count - 1) (sizes_of c r default))))
  sizes-none h = not-stored x sizes_at _ (unequal r.count equal true h)

  pub sizes-stored : (ltb r.count 2 || equal) ≡ false → {after : List ℕ}
      → after ≡ sets (set x sizes_at 1) (sizes_at + 1) (each_from (size_at c r default) (r.count - 1) 0)
      → after ≡ sets x sizes_at (words_of (held_if (leb 2 r.count && not equal) (take (r.count - 1) (sizes_of c r default))))
  unfolding sizes_of
  sizes-stored h w =
      list-stored x sizes_at _ (unequal r.count equal false h)
      (w ∙ ap (sets (set x sizes_at 1) (sizes_at + 1)) (sym (each_take (size_at c r default) (r.count - 1) r.count 0 (omega arith))))

  -- ---- of one size

  abbrev size : ℕ
  size = get_or (sizes_of c r default) 0 0

  abbrev differs : ℕ → ℕ → Bool
  differs own v = not (eqb v own && not (eqb v 0))

  module _ (own : ℕ) where
    pub size_none : (ltb r.count 2 || not equal) ≡ true
        → x ≡ sets x size_place (words_of (held_if (leb 2 r.count && (equal && differs own size)) (size ∷ [])))
    size_none h = not-stored x size_place _ (equal-not r.count equal (differs own size) h)

    pub size-stored : (ltb r.count 2 || not equal) ≡ false → {v : ℕ} {after : List ℕ} → v ≡ size_at c r default 0
        → after ≡ sets x size_place (words_of (held_if (differs own v) (v ∷ [])))
        → after ≡ sets x size_place (words_of (held_if (leb 2 r.count && (equal && differs own size)) (size ∷ [])))
    unfolding sizes_of
    size-stored h {v} e w =
        let z : v ≡ size = e ∙ sym (each_first (size_at c r default) r.count (omega (arith, several r.count (not equal) h))) in
        w
        ∙ ap (λ (k : ℕ). sets x size_place (words_of (held_if (differs own k) (k ∷ [])))) z
        ∙ ap (λ (t : Bool). sets x size_place (words_of (held_if t (size ∷ [])))) (sym (equal-stands r.count equal (differs own size) h))
