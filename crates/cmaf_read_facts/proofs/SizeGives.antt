-- The sizes that a set gives, by ids 1 and 6 and the payload, are those of the samples it was gathered from, and keep the rules of a set. Assumes nothing.
use Prim.Native.Nat.{ℕ, zero, suc, ◌+◌, ◌-◌, ◌*◌, ◌≤◌, ◌<◌}
use native.Mathlib.Nat.{zero-add}
use native.Mathlib.Omega.{arith}
use mathlib.Core.Path.{◌≡◌, refl, sym, ◌∙◌, ap, ap₂}
use mathlib.Core.Bool.{Bool, true, false, cond, not, ◌&&◌}
use mathlib.Core.List.{List, [], ◌∷◌}
use borrow.Author.Tests.{eqb-true, eq-eqb, ne_eqb, leb-true, le-leb, lt-leb, ltb-true, ltb-false, not-true}
use borrow.Table.Steps.{cases}
use lib.Dec.{eqb, leb, ltb}
use lib.ListN.{length, get_or, take}
use Rattle.laws.specs.Tests.{sum}
use Rattle.laws.proofs.TestLaws.{and_left, both_of}
use Rattle.track.specs.declared.Track.{Track}
use Rattle.cmaf_read_shape.specs.Parts.{body_of}
use Rattle.field_set.specs.Lawful.{has, values_of, value_at, count_in}
use Rattle.effective.specs.Sizes.{size_of}
use Rattle.effective.specs.Sums.{sizes_ok}
use Rattle.cmaf_read_trun.specs.Rows.{size_at}
use Rattle.cmaf_read_trun.specs.Samples.{each_from, sizes_of}
use Rattle.cmaf_read_trun.proofs.EachLaws.{each-length, each_take, each_first, each_at, sum-last, each_same}
use Rattle.field_rules.proofs.StandLaws.{stand-all}
use Rattle.cmaf_read_samples.specs.Sizes.{all_same}
use Rattle.cmaf_read_set.specs.Set.{defaults, run, chunk_set}
use Rattle.cmaf_read_set.proofs.SetSays.{Says, says-value, says-choice}
use Rattle.cmaf_read_samples.proofs.SizeLaws.{same-each, same_sum}
use Rattle.cmaf_read_rules.specs.Rules as R
use Rattle.cmaf_read_chunk.specs.Accepted.{top, inner}
use Rattle.cmaf_read_chunk.proofs.ChunkFacts.{Facts}

-- all sizes, the first of them, and whether they are equal
module _ (n : ℕ) (f : ℕ → ℕ) where
  abbrev all : List ℕ
  all = each_from f n 0

  abbrev first : ℕ
  first = get_or all 0 0

  abbrev equal : Bool
  equal = all_same first all

-- how a set says the sizes f of n samples, which are all of the payload
pub record Sized (t : Track) (w : List ℕ) (n : ℕ) (f : ℕ → ℕ) (payload : ℕ) : Type 0 where
  pub count : count_in w ≡ n
  pub total : sum (all n f) ≡ payload
  pub one : Says w 1 (leb 2 n && not (equal n f)) (take (n - 1) (all n f))
  pub six : Says w 6 (leb 2 n && (equal n f && not (eqb (first n f) t.size && not (eqb (first n f) 0)))) (first n f ∷ [])

-- no samples, or one; or several, whose sizes are listed, or are all the size that id 6 or the track says
data Case (t : Track) (w : List ℕ) (n : ℕ) (f : ℕ → ℕ) : Type 0 where
  none : n ≡ 0 → Case t w n f
  alone : n ≡ 1 → Case t w n f
  listed : 2 ≤ n → has 1 w ≡ true → Case t w n f
  alike : 2 ≤ n → has 1 w ≡ false → equal n f ≡ true → cond (has 6 w) (value_at 6 0 w) t.size ≡ first n f → Case t w n f

module _ {t : Track} {w : List ℕ} {n : ℕ} {f : ℕ → ℕ} {payload : ℕ} (h : Sized t w n f payload) where
  -- equal sizes are said where the track doesn't say them
  common : 2 ≤ n → equal n f ≡ true → cond (has 6 w) (value_at 6 0 w) t.size ≡ first n f
  common le e =
      says-choice h.six 0 (first n f) t.size (λ _. omega arith) (λ _. refl)
      ∙ rw (le-leb 2 n le, e) (by (eqb (first n f) t.size) (eqb (first n f) 0) refl)
    where
      by : (x z : Bool) → eqb (first n f) t.size ≡ x → cond (not (x && not z)) (first n f) t.size ≡ first n f
      by false z q = refl
      by true true q = refl
      by true false q = sym (eqb-true _ _ q)

  -- which of the four it is
  case : Case t w n f
  case = by n refl
    where
      by : (m : ℕ) → n ≡ m → Case t w n f
      by zero e = none e
      by (suc zero) e = alone e
      by (suc (suc m)) q =
          let le : 2 ≤ n = omega arith in
          cases (equal n f) (λ e. alike le (h.one.stands ∙ rw (le-leb 2 n le, e)) e (common le e))
          (λ e. listed le (h.one.stands ∙ rw (le-leb 2 n le, e)))

  -- all but the last, as id 1 lists them
  before-is : take (n - 1) (all n f) ≡ each_from f (n - 1) 0
  before-is = each_take f (n - 1) n 0 (omega arith)

  before-length : length (take (n - 1) (all n f)) ≡ n - 1
  before-length = ap length before-is ∙ each-length f (n - 1) 0

  listed-sum : has 1 w ≡ true → sum (values_of 1 (n - 1) w) ≡ sum (each_from f (n - 1) 0)
  listed-sum p = ap sum (stand-all (n - 1) p (h.one.values p) before-length ∙ before-is)

  -- the last is what is left of the payload
  last-is : 0 < n → sum (each_from f (n - 1) 0) + f (n - 1) ≡ payload
  last-is lt =
      let e : suc (n - 1) ≡ n = omega arith in
      sym (rw zero-add at (sum-last f (n - 1) 0)) ∙ ap (λ (k : ℕ). sum (each_from f k 0)) e ∙ h.total

  -- equal sizes, added up
  equal-sum : equal n f ≡ true → n * (first n f) ≡ payload
  equal-sum e = ap (λ (k : ℕ). k * (first n f)) (sym (each-length f n 0)) ∙ sym (same_sum (first n f) (all n f) e) ∙ h.total

  -- a size by id 1: one that is listed, or the last
  listed-size : has 1 w ≡ true → (i : ℕ) → i < n → (x : Bool) → ltb i (n - 1) ≡ x → cond x (value_at 1 i w) (payload - sum (values_of 1 (n - 1) w)) ≡ f i
  listed-size p i lt true e =
      let k : i < n - 1 = ltb-true _ _ e in
      says-value h.one p i (omega (arith, before-length)) ∙ rw before-is (each_at f (n - 1) 0 i k ∙ ap f (zero-add i))
  listed-size p i lt false e =
      let z : n - 1 ≡ i = omega (arith, ltb-false i (n - 1) e) in
      omega (arith, listed-sum p, last-is (omega arith), ap f z)

  -- the size of a sample, case by case; and the rule on sizes
  pub size_same : (i : ℕ) → i < n → size_of t w payload i ≡ f i
  unfolding size_of sum each_from
  size_same = by case
    where
      by : Case t w n f → (i : ℕ) → i < n → size_of t w payload i ≡ f i
      by (none e) i lt = absurd (omega arith)
      by (alone e) i lt =
          let z : 0 ≡ i = omega arith in
          let s : f 0 + 0 ≡ payload = rw e at h.total in
          rw (h.count, le-leb n 1 (omega arith)) (omega (arith, ap f z))
      by (listed le p) i lt = rw (h.count, lt-leb n 1 (omega arith), p) (listed-size p i lt (ltb i (n - 1)) refl)
      by (alike le p e k) i lt = rw (h.count, lt-leb n 1 (omega arith), p) (k ∙ sym (rw zero-add at (same-each f (first n f) n 0 i e lt)))

  pub sizes-hold : sizes_ok t w payload ≡ true
  unfolding sizes_ok sum each_from
  sizes-hold = by case
    where
      by : Case t w n f → sizes_ok t w payload ≡ true
      by (none e) = rw (h.count, eq-eqb n 0 e) (eq-eqb payload 0 (sym h.total ∙ ap (λ (k : ℕ). sum (each_from f k 0)) e))
      by (alone e) = rw (h.count, ne_eqb n 0 (λ (z : n ≡ 0). omega arith), eq-eqb n 1 e)
      by (listed le p) =
          rw (h.count, ne_eqb n 0 (λ (z : n ≡ 0). omega arith), ne_eqb n 1 (λ (z : n ≡ 1). omega arith), p)
          (le-leb (sum (values_of 1 (n - 1) w)) payload (omega (arith, listed-sum p, last-is (omega arith))))
      by (alike le p e k) =
          rw (h.count, ne_eqb n 0 (λ (z : n ≡ 0). omega arith), ne_eqb n 1 (λ (z : n ≡ 1). omega arith), p) (said (has 6 w) (value_at 6 0 w) t.size k)
        where
          said : (b : Bool) (x y : ℕ) → cond b x y ≡ first n f → cond b (eqb (n * x) payload) (eqb (n * y) payload) ≡ true
          said true x y q = eq-eqb _ _ (ap (λ (v : ℕ). n * v) q ∙ equal-sum e)
          said false x y q = eq-eqb _ _ (ap (λ (v : ℕ). n * v) q ∙ equal-sum e)

  -- listed sizes differ
  pub sizes-differ : has 1 w ≡ true → all_same (size_of t w payload 0) (each_from (size_of t w payload) (count_in w) 0) ≡ false
  sizes-differ p =
      let b = both_of (leb 2 n) (not (equal n f)) (sym h.one.stands ∙ p) in
      let le : 2 ≤ n = leb-true _ _ b.0 in
      let z : size_of t w payload 0 ≡ first n f = size_same 0 (omega arith) ∙ sym (each_first f n (omega arith)) in
      let s : each_from (size_of t w payload) n 0 ≡ all n f = each_same (size_of t w payload) f n 0 (λ i lt. size_same i (omega arith)) in
      ap (λ (k : ℕ). all_same (size_of t w payload 0) (each_from (size_of t w payload) k 0)) h.count ∙ ap₂ all_same z s ∙ not-true _ b.1

-- the set of an accepted chunk says the sizes so
pub chunk-sized : (t : Track) (c : List ℕ) → Facts t c
    → Sized t (chunk_set t c (inner c)) (run t c (inner c)).count (size_at c (run t c (inner c)) (defaults t c (inner c)).size) (body_of (top c).mdat).len
unfolding sizes_of R.sizes_ok
chunk-sized t c a =
    record {
      count = a.said.count;
      total = eqb-true _ _ (and_left (eqb (sum (sizes_of c (run t c (inner c)) (defaults t c (inner c)).size)) _) _ a.rules.sizes);
      one = a.said.sizes;
      six = a.said.same-size;
    }
