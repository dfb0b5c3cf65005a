-- Whether the IVs of a set follow: a walk that compares each with the one that is to stand there. Assumes nothing.
use Prim.Native.Nat.{ℕ, suc, ◌+◌, ◌-◌, ◌*◌, ◌≤◌, ◌<◌}
use native.Mathlib.Nat.{suc-mul, mul-le-mul_right}
use native.Mathlib.Numerals.{add-one}
use native.Mathlib.Omega.{arith}
use mathlib.Core.Path.{◌≡◌, refl, sym, ◌∙◌, ap, ap₂}
use mathlib.Core.Bool.{Bool, true, false, false≢true, not, ◌&&◌, ◌||◌}
use mathlib.Core.List.{List, [], ◌∷◌}
use borrow.Author.Tests.{eqb-true, eq-eqb}
use lib.Dec.{eqb}
use lib.ListN.{length, get_or}
use lib.Seq.{slice}
use Rattle.laws.specs.Tests.{same}
use Rattle.laws.proofs.SliceLaws.{take-slice, drop-slice}
use Rattle.laws.proofs.TestLaws.{and-true, and-false, neither}
use Rattle.track.specs.declared.Track.{Track}
use Rattle.field_table.specs.Lines.{lines, line_for, ivs_at}
use Rattle.field_set.specs.Lawful.{has, count_in}
use Rattle.iv_counter.specs.declared.Counter.{Counter}
use Rattle.counters.specs.declared.follow.Walk.{Walk}
use Rattle.iv_counter.specs.Counter.{blocks, following, counter_of, counters_of, counter_at, Counts}
use Rattle.counters.specs.Follow.{iv_words, counters_in, derived, ivs_follow, Passed, all_follow}
use Rattle.iv_counter.proofs.CounterLaws.{iv-room}
use Rattle.counters.proofs.WalkLaws.{Walked, bytes_left, follow-head, follow-next, follow-end}

-- ---- the counters that stand

-- from the sample i on
abbrev pub standing : ℕ → List ℕ → ℕ → List ℕ
standing k x i = counters_of k (count_in x - i) (slice (ivs_at + 1 + i * k) (ivs_at + 1 + count_in x * k) x)

-- that of the sample i, and those behind it
standing-next : (k : ℕ) (x : List ℕ) (i : ℕ) → i < count_in x → ivs_at + 1 + count_in x * k ≤ length x → standing k x i ≡ counter_at k i x ∷ standing k x (i + 1)
unfolding counters_of counter_at
standing-next k x i lt long =
    let at : ℕ = ivs_at + 1 + i * k in
    let to : ℕ = ivs_at + 1 + count_in x * k in
    let m : count_in x - i ≡ suc (count_in x - suc i) = omega arith in
    let next : at + k ≡ ivs_at + 1 + suc i * k = omega (arith, suc-mul i k) in
    let few : suc i ≤ count_in x = omega arith in
    let inside : at + k ≤ to = omega (arith, next, mul-le-mul_right k few) in
    rw (m, add-one i)
    (ap₂ (λ (a : ℕ) (l : List ℕ). a ∷ l) (ap counter_of (take-slice at to k x inside long))
    (ap (counters_of k (count_in x - suc i)) (drop-slice at to k x ∙ ap (λ (p : ℕ). slice p to x) next)))

-- none is left
standing-end : (k : ℕ) (x : List ℕ) (i : ℕ) → count_in x ≤ i → standing k x i ≡ []
unfolding counters_of
standing-end k x i le = let z : count_in x - i ≡ 0 = omega arith in rw z

-- nothing is the same as nothing
none : true ≡ same [] []
unfolding same
none = refl

-- ---- the walk

-- those before the sample i are the same, and what is left to be compared tells all, from the counter n on
pub record Following (t : Track) (k n last : ℕ) (x : List ℕ) (v : Walk) (i : ℕ) : Type 0 where
  pub number : ℕ
  pub counts : Counts k number v.c
  pub rest : (payload : ℕ) → same (following number v.bytes (bytes_left t x payload i v.j)) (standing k x i) ≡ all_follow t k n last x payload

module _ (t : Track) {k : ℕ} {x : List ℕ} (s : Walked k x) (n last : ℕ) where
  pub follow-start : (c : Counter) → Counts k n c → Following t k n last x (record { c = c; bytes = last; j = 0 }) 0
  follow-start c h =
      let z : count_in x - 0 ≡ count_in x = omega arith in
      let y : ivs_at + 1 + 0 * k ≡ ivs_at + 1 = omega arith in
      record { number = n; counts = h; rest = λ payload. rw (z, y) }

  module _ (v : Walk) (i : ℕ) (h : Following t k n last x v i) where
    module _ (lt : i < count_in x) (b : Bool) (test : b ≡ eqb (h.number + blocks v.bytes) (counter_at k i x)) where
      abbrev to : ℕ
      to = h.number + blocks v.bytes

      abbrev now : ℕ
      now = counter_at k i x

      long : ivs_at + 1 + count_in x * k ≤ length x
      long = omega (arith, iv-room k (count_in x) s.words s.sums.few, s.sums.words)

      -- the one that stands next is another
      pub follow-other : b ≡ false → (payload : ℕ) → false ≡ all_follow t k n last x payload
      unfolding same
      follow-other q payload =
          sym (and-false _ (sym test ∙ q))
          ∙ (rw (follow-head t x payload h.number v.bytes v.j i lt, standing-next k x i lt long) at (h.rest payload))

      -- it is the same, and its sample is passed
      pub follow-more : b ≡ true → (e : Counter) → Counts k now e → (w : Walk) → Passed t x e i v.j w → Following t k n last x w (i + 1)
      unfolding same
      follow-more q e he w p =
          let is : eqb to now ≡ true = sym test ∙ q in
          record {
            number = now;
            counts = rw p.own he;
            rest = λ payload.
                ap (λ (m : ℕ). same (following m w.bytes (bytes_left t x payload (i + 1) w.j)) (standing k x (i + 1))) (sym (eqb-true to now is))
                ∙ sym (and-true _ is)
                ∙ (rw (follow-next t x payload h.number v.bytes v.j i e w lt p, standing-next k x i lt long) at (h.rest payload));
          }

    -- all are
    pub follow-end-is : count_in x ≤ i → (payload : ℕ) → true ≡ all_follow t k n last x payload
    follow-end-is le payload = none ∙ (rw (follow-end t x payload h.number v.bytes v.j i le, standing-end k x i le) at (h.rest payload))

-- the walk isn't begun where no IVs stand
pub follow-none : (t : Track) (last : ℕ) (r x : List ℕ) (payload : ℕ) → (eqb (get_or r ivs_at 0) 0 || eqb (get_or x ivs_at 0) 0) ≡ true → false ≡ ivs_follow t last r x payload
unfolding ivs_follow has lines line_for
follow-none t last r x payload h = by (eqb (get_or r ivs_at 0) 0) (eqb (get_or x ivs_at 0) 0) h
  where
    by : (a b : Bool) → (a || b) ≡ true → false ≡ (not a && (not b && same (derived t last r x payload) (counters_in t x)))
    by true b e = refl
    by false true e = refl
    by false false e = absurd (false≢true e)

-- nor where the new set has none
pub follow-absent : (t : Track) (last : ℕ) (r x : List ℕ) (payload : ℕ) → get_or x ivs_at 0 ≡ 0 → false ≡ ivs_follow t last r x payload
follow-absent t last r x payload h = follow-none t last r x payload (by (eqb (get_or r ivs_at 0) 0) (eqb (get_or x ivs_at 0) 0) (eq-eqb _ _ h))
  where
    by : (a b : Bool) → b ≡ true → (a || b) ≡ true
    by true b e = refl
    by false b e = e

-- and is where they do
pub both-stand : (r x : List ℕ) → (eqb (get_or r ivs_at 0) 0 || eqb (get_or x ivs_at 0) 0) ≡ false → (has 9 r ≡ true) × (has 9 x ≡ true)
unfolding has lines line_for
both-stand r x h =
    let e = neither (eqb (get_or r ivs_at 0) 0) (eqb (get_or x ivs_at 0) 0) h in
    (ap not e.0, ap not e.1)

-- then it tells all
pub follow-all : (t : Track) (last : ℕ) (r x : List ℕ) (payload : ℕ) (b : Bool) → has 9 r ≡ true → has 9 x ≡ true
    → b ≡ all_follow t (iv_words t) (counter_at (iv_words t) (count_in r - 1) r) last x payload → b ≡ ivs_follow t last r x payload
unfolding ivs_follow derived
follow-all t last r x payload b old new e = rw (old, new) e
