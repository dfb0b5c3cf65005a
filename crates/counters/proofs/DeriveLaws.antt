-- The IVs that follow are put into the room of a set: what is left to be put, and that all else stays. Assumes nothing.
use Prim.Native.Nat.{ℕ, zero, suc, ◌+◌, ◌-◌, ◌*◌, ◌≤◌, ◌<◌}
use native.Mathlib.Nat.{suc-mul}
use native.Mathlib.Numerals.{add-one}
use native.Mathlib.Omega.{arith}
use mathlib.Core.Path.{◌≡◌, refl, sym, ◌∙◌, ap}
use mathlib.Core.Bool.{Bool, true, false}
use mathlib.Core.List.{List, [], ◌++◌}
use mathlib.Core.Logic.{⊎_elim, inl, inr}
use borrow.Author.Tests.{leb-true, le-leb}
use lib.Dec.{leb}
use lib.ListN.{length, length-append}
use lib.Seq.{sets}
use Rattle.constants.specs.Maxima.{subsamples_most}
use Rattle.laws.specs.Tests.{◌and◌, all_le}
use Rattle.laws.proofs.StoreLaws.{sets-append}
use Rattle.laws.proofs.TestLaws.{and-true, and-false, and-end}
use Rattle.track.specs.declared.Track.{Track}
use Rattle.field_table.specs.Lines.{ivs_at, subsamples_at}
use Rattle.field_set.specs.Lawful.{value_at, count_in}
use Rattle.told_sizes.specs.Sums.{Summable}
use Rattle.iv_counter.specs.declared.Counter.{Counter}
use Rattle.counters.specs.declared.follow.Walk.{Walk}
use Rattle.iv_counter.specs.Counter.{blocks, following, counters, counter_words, all_words, counter_at, Counts}
use Rattle.counters.specs.Protected.{protected_of}
use Rattle.counters.specs.Follow.{iv_words, derived, derived_fit, with_derived, DerivedAs, Passed, due, AllPut}
use Rattle.counters.proofs.BesideLaws.{beside-length, beside-count, beside-pairs, beside-summable, beside-protected-of}
use Rattle.iv_counter.proofs.CounterLaws.{iv-room}
use Rattle.counters.proofs.WalkLaws.{Walked, Place, place-fits, bytes_left, follow-next, follow-end}

-- ---- a set with other words in the room of its IVs

-- the first i of them, of k words each, are put
pub record Put (k : ℕ) (x y : List ℕ) (i : ℕ) : Type 0 where
  pub words : List ℕ
  pub many : length words ≡ i * k
  pub is : y ≡ sets x (ivs_at + 1) words

-- none
pub put-none : (k : ℕ) (x : List ℕ) → Put k x x 0
put-none k x = record { words = []; many = omega arith; is = refl }

-- one more
pub put-more : (k : ℕ) (x y z : List ℕ) (i : ℕ) → Put k x y i → (vs : List ℕ) × (length vs ≡ k) × (z ≡ sets y (ivs_at + 1 + i * k) vs) → Put k x z (i + 1)
put-more k x y z i p (vs, many, is) =
    record {
      words = p.words ++ vs;
      many = rw (add-one i) (omega (arith, length-append p.words vs, p.many, suc-mul i k));
      is = is ∙ rw (p.is, ← p.many) (sym (sets-append p.words vs x (ivs_at + 1)));
    }

module _ {k : ℕ} {x : List ℕ} (s : Walked k x) (y : List ℕ) (i : ℕ) (few : i ≤ count_in x) (p : Put k x y i) where
  -- they are within the room
  room : ivs_at + 1 + length p.words ≤ subsamples_at
  room = omega (arith, p.many, iv-room k i s.words (omega (arith, s.sums.few)))

  pub put-length : length y ≡ length x
  put-length = rw p.is (beside-length x p.words room)

  put-sums : Summable y
  put-sums = rw p.is (beside-summable x p.words room s.sums)

  put_count : count_in y ≡ count_in x
  put_count = rw p.is (beside-count x p.words room)

  put-pairs : (h : ℕ) → value_at 11 h y ≡ value_at 11 h x
  put-pairs h = rw p.is (beside-pairs x p.words room h)

  put-own : (t : Track) (payload h j : ℕ) → protected_of t y payload h j ≡ protected_of t x payload h j
  put-own t payload h j = rw p.is (beside-protected-of x p.words room s.sums.few t payload h j)

module _ {k : ℕ} {x : List ℕ} (s : Walked k x) (z : List ℕ) (v : Walk) (i : ℕ) (h : Place x v i) (lt : i < count_in x) (p : Put k x z (i + 1)) where
  -- the sample i can be passed behind that
  pub put-asks : Summable z × (i < count_in z) × (v.j + value_at 11 i z ≤ subsamples_most)
  put-asks = (
    put-sums s z (i + 1) (omega arith) p,
    omega (arith, put_count s z (i + 1) (omega arith) p),
    omega (arith, put-pairs s z (i + 1) (omega arith) p i, place-fits s v i h lt),
  )

  -- and what is found is of the set as it was
  pub put-passed : (t : Track) (c : Counter) (w : Walk) → Passed t z c i v.j w → Passed t x c i v.j w
  put-passed t c w q =
      let n = put_count s z (i + 1) (omega arith) p in
      let e = put-pairs s z (i + 1) (omega arith) p i in
      record {
        own = q.own;
        small = q.small;
        on = ⊎_elim
            (λ o. inl (omega (arith, n, o.0), (λ payload. o.1 payload ∙ put-own s z (i + 1) (omega arith) p t payload i v.j), omega (arith, e, o.2)))
            (λ o. inr (omega (arith, n, o.0), o.1)) q.on;
      }

-- ---- the walk

-- a test beside one that fails
none-holds : (b : Bool) → (b and false) ≡ false
unfolding ◌and◌
none-holds true = refl
none-holds false = refl

-- so many words has a counter
words-length : (k n : ℕ) → length (counter_words k n) ≡ k
unfolding counter_words
words-length zero n = refl
words-length (suc k) n = ap suc (words-length k n)

-- the IVs before the sample i are put into x, which has become y, and what is left to be put, from the counter n on
pub record Deriving (t : Track) (k n last : ℕ) (x y : List ℕ) (v : Walk) (i : ℕ) : Type 0 where
  pub number : ℕ
  pub counts : Counts k number v.c
  pub fit : (payload : ℕ)
      → (v.c.ok and all_le (counters k - 1) (following number v.bytes (bytes_left t x payload i v.j))) ≡ all_le (counters k - 1) (due t n last x payload)
  pub rest : (payload : ℕ) → v.c.ok ≡ true
      → sets y (ivs_at + 1 + i * k) (all_words k (following number v.bytes (bytes_left t x payload i v.j))) ≡ sets x (ivs_at + 1) (all_words k (due t n last x payload))

module _ (t : Track) (k n last : ℕ) (x : List ℕ) where
  pub derive-start : (c : Counter) → Counts k n c → c.ok ≡ true → Deriving t k n last x x (record { c = c; bytes = last; j = 0 }) 0
  derive-start c h good =
      let z : count_in x - 0 ≡ count_in x = omega arith in
      let y : ivs_at + 1 + 0 * k ≡ ivs_at + 1 = omega arith in
      record { number = n; counts = h; fit = λ payload. and-true _ good ∙ rw z; rest = λ payload o. rw (z, y) }

  module _ (y : List ℕ) (v : Walk) (i : ℕ) (h : Deriving t k n last x y v i) where
    pub derive-more : i < count_in x → (d : Counter) → Counts k (h.number + blocks v.bytes) d → (z : List ℕ)
        → ((m : ℕ) → Counts k m d → d.ok ≡ true → z ≡ sets y (ivs_at + 1 + i * k) (counter_words k m))
        → (w : Walk) → Passed t x d i v.j w → Deriving t k n last x z w (i + 1)
    unfolding all_le all_words
    derive-more lt d hd z sure w p =
        record {
          number = to;
          counts = rw p.own hd;
          fit = λ payload. rw p.own (again payload d.ok refl) ∙ (rw (follow-next t x payload h.number v.bytes v.j i d w lt p) at (h.fit payload));
          rest = λ payload o.
              let good : d.ok ≡ true = sym (ap (λ (c : Counter). c.ok) p.own) ∙ o in
              let e : z ≡ sets y at (counter_words k to) = sure to hd good in
              let on : at + length (counter_words k to) ≡ ivs_at + 1 + (i + 1) * k = rw (add-one i) (omega (arith, words-length k to, suc-mul i k)) in
              rw (e, ← on) (sym (sets-append (counter_words k to) _ y at))
              ∙ (rw (follow-next t x payload h.number v.bytes v.j i d w lt p) at (h.rest payload (before good)));
        }
      where
        at : ℕ
        at = ivs_at + 1 + i * k

        to : ℕ
        to = h.number + blocks v.bytes

        -- one that fits follows from one that fits
        before : d.ok ≡ true → v.c.ok ≡ true
        before e = h.counts.fits ∙ le-leb h.number (counters k - 1) (omega (arith, leb-true to (counters k - 1) (sym hd.fits ∙ e)))

        again : (payload : ℕ) (o : Bool) → d.ok ≡ o
            → (d.ok and all_le (counters k - 1) (following to w.bytes (bytes_left t x payload (i + 1) w.j)))
            ≡ (v.c.ok and (leb to (counters k - 1) and all_le (counters k - 1) (following to w.bytes (bytes_left t x payload (i + 1) w.j))))
        again payload true e = rw (← hd.fits) (sym (and-true _ (before e)))
        again payload false e = and-false _ e ∙ sym (ap (λ (b : Bool). v.c.ok and b) (and-false _ (sym hd.fits ∙ e)) ∙ none-holds v.c.ok)

    -- its end
    pub derive-end : count_in x ≤ i → length y ≡ length x → (payload : ℕ) → AllPut t k n last x payload v.c.ok y
    unfolding all_le all_words
    derive-end le long payload =
        record {
          answered = sym (and-end v.c.ok) ∙ (rw (follow-end t x payload h.number v.bytes v.j i le) at (h.fit payload));
          stored = λ good. rw (follow-end t x payload h.number v.bytes v.j i le) at (h.rest payload good);
          long = long;
        }

-- behind the reference's last sample
pub derived-all : (t : Track) (last : ℕ) (r x y : List ℕ) (payload : ℕ) (ok : Bool)
    → AllPut t (iv_words t) (counter_at (iv_words t) (count_in r - 1) r) last x payload ok y → DerivedAs t last r x payload ok y
unfolding derived derived_fit with_derived
derived-all t last r x y payload ok a = record { answered = a.answered; stored = a.stored; long = a.long }
