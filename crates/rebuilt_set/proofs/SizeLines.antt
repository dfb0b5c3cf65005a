-- Ids 1 and 6: the sizes of the samples, read, stand as the set has them. Assumes nothing.
use Prim.Native.Nat.{ℕ, ◌-◌, ◌≤◌, ◌<◌}
use native.Mathlib.Omega.{arith}
use mathlib.Core.Path.{◌≡◌, refl, sym, ◌∙◌, ap, ap₂}
use mathlib.Core.Bool.{Bool, true, false, false≢true, not, cond, ◌&&◌, and-true}
use mathlib.Core.List.{List, [], ◌∷◌}
use borrow.Author.Tests.{leb-true, leb-false, le-leb, lt-leb, lt-ltb, eqb-true, eq-eqb, not-true}
use lib.Dec.{eqb, leb}
use lib.ListN.{get_or, take}
use Rattle.laws.proofs.TestLaws.{both_of, same_test, unless}
use Rattle.track.specs.declared.Track.{Track}
use Rattle.field_set.specs.Lawful.{has, value_at, count_in}
use Rattle.cmaf_read_shape.specs.declared.inner.Inner.{Inner}
use Rattle.effective.specs.Sizes.{size_of}
use Rattle.cmaf_read_trun.specs.Rows.{run_of, size_at}
use Rattle.cmaf_read_trun.specs.Samples.{each_from, sizes_of}
use Rattle.cmaf_read_samples.specs.Held.{held_if}
use Rattle.cmaf_read_samples.specs.Sizes.{all_same}
use Rattle.cmaf_read_set.specs.Set.{defaults, run, sizes, size, equal, several}
use Rattle.rebuilt.proofs.SencValues.{values_from, values-each}
use Rattle.cmaf_read_facts.specs.Given.{Canonical}
use Rattle.rebuilt.specs.Read.{Read}
use Rattle.cmaf_read_samples.proofs.CellLaws.{held_same}
use Rattle.field_set.proofs.RuleLaws.{Ruled, ruled}
use Rattle.cmaf_read_trun.proofs.EachLaws.{each_first, each_take, each_same}
use Rattle.cmaf_read_samples.proofs.SizeLaws.{same-all, same-few}

-- the track's own size, which isn't 0
abbrev usual : Track → ℕ → Bool
usual t v = eqb v t.size && not (eqb v 0)

module _ (t : Track) (w : List ℕ) (n : ℕ) (g : Canonical t w n) where
  abbrev m : ℕ
  m = count_in w

  abbrev all : List ℕ
  all = each_from (size_of t w n) m 0

  abbrev first : ℕ
  first = get_or all 0 0

  rules : Ruled t m w
  rules = ruled t w g.is_lawful

  first-is : 2 ≤ m → first ≡ size_of t w n 0
  first-is h = each_first (size_of t w n) m (omega arith)

  -- without id 1 all have one size: that of id 6, or the track's
  abbrev base : ℕ
  base = cond (has 6 w) (value_at 6 0 w) t.size

  size-base : 2 ≤ m → has 1 w ≡ false → (i : ℕ) → size_of t w n i ≡ base
  unfolding size_of
  size-base h e i = rw (lt-leb m 1 (omega arith), e)

  first-base : 2 ≤ m → has 1 w ≡ false → first ≡ base
  first-base h e = first-is h ∙ size-base h e 0

  all-same : 2 ≤ m → has 1 w ≡ false → all_same first all ≡ true
  all-same h e = rw (first-base h e) (same-all (size_of t w n) base (size-base h e) m 0)

  -- with it they differ, and so are several
  more : has 1 w ≡ true → 2 ≤ m
  more e =
      leb-true 2 m
      (unless (leb 2 m) (λ q. let lt : m < 2 = leb-false 2 m q in false≢true (sym (g.unequal e) ∙ same-few (size_of t w n) m (omega arith))))

  differ : has 1 w ≡ true → all_same first all ≡ false
  differ e = rw (first-is (more e)) (g.unequal e)

  -- ---- id 1

  stands-1 : (leb 2 m && not (all_same first all)) ≡ has 1 w
  stands-1 =
      same_test _ _
      (λ e.
      let r = both_of (leb 2 m) (not (all_same first all)) e in
      unless (has 1 w) (λ q. false≢true (sym (not-true _ r.1) ∙ all-same (leb-true 2 m r.0) q)))
      (λ e. rw (le-leb 2 m (more e), differ e))

  size-listed : has 1 w ≡ true → (j : ℕ) → j < m - 1 → size_of t w n j ≡ value_at 1 j w
  unfolding size_of
  size-listed e j lt = let h : 2 ≤ m = more e in rw (lt-leb m 1 (omega arith), e, lt-ltb j (m - 1) lt)

  values-1 : has 1 w ≡ true → take (m - 1) all ≡ values_from 1 w (m - 1) 0
  values-1 e =
      each_take (size_of t w n) (m - 1) m 0 (omega arith)
      ∙ each_same (size_of t w n) (λ j. value_at 1 j w) (m - 1) 0 (λ j lt. size-listed e j (omega arith))
      ∙ values-each 1 w (m - 1) 0

  -- ---- id 6

  -- it never stands with id 1
  not-one : has 6 w ≡ true → has 1 w ≡ false
  not-one e = sym (and-true (has 1 w)) ∙ ap (λ (b : Bool). has 1 w && b) (sym e) ∙ rules.sizes

  first-6 : has 6 w ≡ true → first ≡ value_at 6 0 w
  first-6 e = first-base (g.several e) (not-one e) ∙ rw e

  -- id 6 isn't that size
  other : has 6 w ≡ true → usual t (value_at 6 0 w) ≡ false
  other e = by (eqb (value_at 6 0 w) t.size) refl
    where
      by : (b : Bool) → eqb (value_at 6 0 w) t.size ≡ b → (b && not (eqb (value_at 6 0 w) 0)) ≡ false
      by true q = let s : value_at 6 0 w ≡ t.size = eqb-true _ _ q in ap not (eq-eqb (value_at 6 0 w) 0 (s ∙ g.size e s))
      by false q = refl

  -- where neither stands they have it
  own : 2 ≤ m → has 1 w ≡ false → has 6 w ≡ false → usual t first ≡ true
  own h e q =
      let s : first ≡ t.size = first-base h e ∙ rw q in
      let z : not (eqb t.size 0) ≡ true = rw (lt-leb m 1 (omega arith), e, q) at rules.size in
      rw (s, eq-eqb t.size t.size refl, z)

  stands-6 : (leb 2 m && (all_same first all && not (usual t first))) ≡ has 6 w
  stands-6 =
      same_test _ _
      (λ e.
      let r = both_of (leb 2 m) (all_same first all && not (usual t first)) e in
      let s = both_of (all_same first all) (not (usual t first)) r.1 in
      let one : has 1 w ≡ false = same_test _ _ (λ q. sym (sym s.0 ∙ differ q)) (λ q. absurd (false≢true q)) in
      unless (has 6 w) (λ q. false≢true (sym (not-true _ s.1) ∙ own (leb-true 2 m r.0) one q)))
      (λ e. rw (le-leb 2 m (g.several e), all-same (g.several e) (not-one e), first-6 e, other e))

  values-6 : has 6 w ≡ true → first ∷ [] ≡ values_from 6 w 1 0
  unfolding values_from
  values-6 e = ap (λ (v : ℕ). v ∷ []) (first-6 e)

-- the sizes that are read are those of the set
module _ {t : Track} {c : List ℕ} {f : Inner} {w : List ℕ} {n offset : ℕ} (k : Read t c f w n offset) where
  pub size_back : (default i : ℕ) → i < count_in w → size_at c (run_of c f.trun) default i ≡ size_of t w n i
  unfolding size_at
  size_back default i lt = rw (k.trun.has-sizes (omega arith)) (k.trun.size-at i lt)

  pub sizes-are : sizes t c f ≡ each_from (size_of t w n) (count_in w) 0
  unfolding sizes_of
  sizes-are =
      ap (λ (z : ℕ). each_from (size_at c (run t c f) (defaults t c f).size) z 0) k.trun.count
      ∙ each_same (size_at c (run t c f) (defaults t c f).size) (size_of t w n) (count_in w) 0
      (λ j lt. size_back (defaults t c f).size j (omega arith))

  module _ (g : Canonical t w n) where
    -- the fields of ids 1 and 6
    pub one-is : held_if (several t c f && not (equal t c f)) (take ((run t c f).count - 1) (sizes t c f)) ≡ held_if (has 1 w) (values_from 1 w (count_in w - 1) 0)
    one-is =
        ap₂ (λ (z : ℕ) (s : List ℕ). held_if (leb 2 z && not (all_same (get_or s 0 0) s)) (take (z - 1) s)) k.trun.count sizes-are
        ∙ held_same _ _ _ _ (stands-1 t w n g) (values-1 t w n g)

    pub six-is : held_if (several t c f && (equal t c f && not (usual t (size t c f)))) (size t c f ∷ [])
        ≡ held_if (has 6 w) (values_from 6 w 1 0)
    six-is =
        ap₂ (λ (z : ℕ) (s : List ℕ). held_if (leb 2 z && (all_same (get_or s 0 0) s && not (usual t (get_or s 0 0)))) (get_or s 0 0 ∷ [])) k.trun.count sizes-are
        ∙ held_same _ _ _ _ (stands-6 t w n g) (values-6 t w n g)
