-- Counters and their words, both ways; IVs that follow never pass their size, and come back where other words were stored. Assumes nothing.
use Prim.Native.Nat.{ℕ, zero, suc, ◌+◌, ◌-◌, ◌*◌, ◌/◌, ◌%◌, ◌^◌, ◌≤◌, ◌<◌}
use native.Mathlib.Nat.{suc-mul, add-sub_cancel_left}
use native.Mathlib.Omega.{arith}
use mathlib.Core.Path.{◌≡◌, refl, sym, ◌∙◌, ap, ap₂}
use mathlib.Core.Logic.{◌⊎◌, inl, inr}
use mathlib.Core.Bool.{true}
use mathlib.Core.List.{List, [], ◌∷◌, ◌++◌}
use borrow.Author.Tests.{leb-true, le-leb}
use lib.Dec.{eqb}
use lib.Arith.{digits_lt}
use lib.Pow.{high, low, le_ones, lt_of_le_ones}
use lib.ListN.{length, take, drop, length-append, length-drop, take-append-drop}
use lib.Seq.{slice, sets, length-slice, length-take-le}
use Rattle.constants.specs.Maxima.{samples_most}
use Rattle.laws.specs.Tests.{◌and◌, all_le}
use Rattle.laws.proofs.TestLaws.{left, right, both, and_left, and_right, all_le-append, low-take, low-drop, same-is}
use Rattle.track.specs.declared.Track.{Track}
use Rattle.track.specs.Track.{cenc, iv_ok}
use Rattle.field_table.specs.Lines.{set_len, ivs_at, u64}
use Rattle.field_set.specs.Lawful.{has, count_in, lawful}
use Rattle.field_set.proofs.LawfulLaws.{lawful-facts}
use Rattle.field_set.proofs.RuleLaws.{ruled}
use Rattle.iv_counter.specs.Counter.{blocks, following, counters, counter_of, counter_words, counters_of, all_words}
use Rattle.counters.specs.Protected.{protected_from}
use Rattle.counters.specs.Follow.{iv_words, derived, ivs_follow, derived_fit, with_derived}
use Rattle.counters.proofs.OutsideLaws.{sets-back}
use Rattle.counters.proofs.BesideLaws.{beside-derived}
use Rattle.counters.proofs.IvsLaws.{Ivs, ivs-in, iv-words}

-- ---- words of a counter

-- each has 64 bits
word-le : (v : ℕ) → v % 2 ^ 64 ≤ u64
word-le v = omega arith

-- those of one counter
own-le : (k c : ℕ) → all_le u64 (counter_words k c) ≡ true
unfolding all_le counter_words
own-le zero c = refl
own-le (suc k) c = both _ _ (le-leb _ _ (word-le (c / counters k))) (own-le k c)

-- those of all counters
pub all-words-le : (k : ℕ) (cs : List ℕ) → all_le u64 (all_words k cs) ≡ true
unfolding all_le all_words
all-words-le k [] = refl
all-words-le k (c ∷ cs) = rw (all_le-append u64 (counter_words k c) (all_words k cs)) (both _ _ (own-le k c) (all-words-le k cs))

-- so many of one counter
own-length : (k c : ℕ) → length (counter_words k c) ≡ k
unfolding counter_words
own-length zero c = refl
own-length (suc k) c = ap suc (own-length k c)

-- and of all
pub all-words-length : (k : ℕ) (cs : List ℕ) → length (all_words k cs) ≡ length cs * k
unfolding all_words
all-words-length k [] = omega arith
all-words-length k (c ∷ cs) =
    omega (arith, length-append (counter_words k c) (all_words k cs), own-length k c, all-words-length k cs, suc-mul (length cs) k)

-- ---- words, their counter, and its words

-- a word that has no more is left as it is
same-mod : (a : ℕ) → a ≤ u64 → a % 2 ^ 64 ≡ a
same-mod a h = omega arith

-- and so is what is divided by 1
by_one : (n : ℕ) → n / 1 ≡ n
by_one n = omega arith

-- of one word or two: no counter passes its size, and its words are those
record Back (k : ℕ) (ws : List ℕ) : Type 0 where
  small : counter_of ws ≤ counters k - 1
  again : counter_words k (counter_of ws) ≡ ws

-- of one word
one-back : (ws : List ℕ) → length ws ≡ 1 → all_le u64 ws ≡ true → Back 1 ws
unfolding all_le counter_of counter_words
one-back [] l e = absurd (omega arith)
one-back (a ∷ []) l e =
    let h : a ≤ u64 = leb-true _ _ (left _ _ e) in
    record { small = omega arith; again = let z : ((a * 1 + 0) / 1) % 2 ^ 64 ≡ a = omega arith in λ j. z j ∷ [] }
one-back (a ∷ b ∷ ws) l e = absurd (omega arith)

-- of two
two_back : (ws : List ℕ) → length ws ≡ 2 → all_le u64 ws ≡ true → Back 2 ws
unfolding all_le counter_of counter_words
two_back [] l e = absurd (omega arith)
two_back (a ∷ []) l e = absurd (omega arith)
two_back (a ∷ b ∷ []) l e =
    let h : a ≤ u64 = leb-true _ _ (left _ _ e) in
    let k : b ≤ u64 = leb-true _ _ (left _ _ (right _ _ e)) in
    let lo : b * 1 + 0 < 2 ^ 64 = omega arith in
    let y : ((a * 2 ^ 64 + (b * 1 + 0)) / 2 ^ 64) % 2 ^ 64 ≡ a = ap (λ (n : ℕ). n % 2 ^ 64) (high a 64 lo) ∙ same-mod a h in
    let z : ((a * 2 ^ 64 + (b * 1 + 0)) / 1) % 2 ^ 64 ≡ b = ap (λ (n : ℕ). n % 2 ^ 64) (by_one (a * 2 ^ 64 + (b * 1 + 0))) ∙ low a 64 lo ∙ omega arith in
    record { small = le_ones 128 (digits_lt (lt_of_le_ones 64 h) lo); again = λ j. y j ∷ z j ∷ [] }
two_back (a ∷ b ∷ c ∷ ws) l e = absurd (omega arith)

-- of either
back : (k : ℕ) (ws : List ℕ) → (k ≡ 1) ⊎ (k ≡ 2) → length ws ≡ k → all_le u64 ws ≡ true → Back k ws
back k ws (inl q) l e = rw q (one-back ws (l ∙ q) e)
back k ws (inr q) l e = rw q (two_back ws (l ∙ q) e)

module _ (k : ℕ) (few : (k ≡ 1) ⊎ (k ≡ 2)) where
  -- those of the first IV
  first_back : (n : ℕ) (ws : List ℕ) → length ws ≡ suc n * k → all_le u64 ws ≡ true → Back k (take k ws)
  first_back n ws l e = back k (take k ws) few (length-take-le k ws (omega (arith, suc-mul n k))) (low-take u64 k ws e)

  -- and of the others
  rest-length : (n : ℕ) (ws : List ℕ) → length ws ≡ suc n * k → length (drop k ws) ≡ n * k
  rest-length n ws l = omega (arith, length-drop k ws, suc-mul n k)

  -- words make counters, and these make the words again
  pub words_back : (n : ℕ) (ws : List ℕ) → length ws ≡ n * k → all_le u64 ws ≡ true → all_words k (counters_of k n ws) ≡ ws
  unfolding all_words counters_of
  words_back zero [] l e = refl
  words_back zero (w ∷ ws) l e = absurd (omega arith)
  words_back (suc n) ws l e =
      ap₂ (λ (a b : List ℕ). a ++ b) (first_back n ws l e).again (words_back n (drop k ws) (rest-length n ws l) (low-drop u64 k ws e))
      ∙ take-append-drop k ws

  -- and none of the counters passes its size
  pub words-fit : (n : ℕ) (ws : List ℕ) → length ws ≡ n * k → all_le u64 ws ≡ true → all_le (counters k - 1) (counters_of k n ws) ≡ true
  unfolding all_le counters_of
  words-fit zero ws l e = refl
  words-fit (suc n) ws l e =
      both _ _ (le-leb _ _ (first_back n ws l e).small) (words-fit n (drop k ws) (rest-length n ws l) (low-drop u64 k ws e))

-- ---- how many there are

-- one behind another for each sample
following-length : (c bytes : ℕ) (own : List ℕ) → length (following c bytes own) ≡ length own
unfolding following
following-length c bytes [] = refl
following-length c bytes (b ∷ own) = ap suc (following-length (c + blocks bytes) b own)

-- of which there are k
from-length : (t : Track) (w : List ℕ) (payload k i j : ℕ) → length (protected_from t w payload k i j) ≡ k
unfolding protected_from
from-length t w payload zero i j = refl
from-length t w payload (suc k) i j = ap suc (from-length t w payload k (suc i) _)

-- and so as many as samples
pub derived-length : (t : Track) (last : ℕ) (r x : List ℕ) (payload : ℕ) → length (derived t last r x payload) ≡ count_in x
unfolding derived
derived-length t last r x payload = following-length _ last _ ∙ from-length t x payload (count_in x) 0 0

-- ---- IVs that follow

module _ (t : Track) (last : ℕ) (r x : List ℕ) (payload : ℕ) (long : length x ≡ set_len) (good : lawful t x ≡ true)
    (iv : iv_ok t.protection t.iv_size ≡ true) (follows : ivs_follow t last r x payload ≡ true) where
  -- the words of the IVs
  abbrev words : List ℕ
  words = slice (ivs_at + 1) (ivs_at + 1 + count_in x * iv_words t) x

  -- they stand
  stand : has 9 x ≡ true
  unfolding ivs_follow
  stand = and_left (has 9 x) _ (and_right (has 9 r) _ follows)

  -- and have room
  ivs : Ivs t x
  ivs = ivs-in t x good stand

  -- each of one word or two
  one-or-two : (iv_words t ≡ 1) ⊎ (iv_words t ≡ 2)
  one-or-two = iv-words t.protection t.iv_size iv (and_left (eqb t.protection cenc) _ (sym (ruled t x good).ivs ∙ stand))

  -- so many in all
  words_long : length words ≡ count_in x * iv_words t
  words_long = length-slice (ivs_at + 1) (ivs_at + 1 + count_in x * iv_words t) x (omega (arith, long, ivs.room)) ∙ add-sub_cancel_left (ivs_at + 1) (count_in x * iv_words t)

  -- they are the counters that follow
  derived-is : derived t last r x payload ≡ counters_of (iv_words t) (count_in x) words
  unfolding ivs_follow
  derived-is = same-is _ _ (and_right (has 9 x) _ (and_right (has 9 r) _ follows))

  -- counters of lawful words never pass their size
  pub follow-fit : derived_fit t last r x payload ≡ true
  unfolding derived_fit
  follow-fit = rw derived-is (words-fit (iv_words t) one-or-two (count_in x) words words_long ivs.values)

  -- stored over other words they make the set again
  pub follow-back : (vs : List ℕ) → length vs ≡ count_in x * iv_words t → with_derived t last r (sets x (ivs_at + 1) vs) payload ≡ x
  unfolding with_derived
  follow-back vs e =
      let few : count_in x ≤ samples_most = (lawful-facts t x good).count in
      let same : all_words (iv_words t) (derived t last r (sets x (ivs_at + 1) vs) payload) ≡ words =
      ap (all_words (iv_words t)) (beside-derived x vs (omega (arith, e, ivs.room)) few t payload last r ∙ derived-is)
      ∙ words_back (iv_words t) one-or-two (count_in x) words words_long ivs.values in
      rw same (sets-back x vs (ivs_at + 1) (count_in x * iv_words t) e (omega (arith, long, ivs.room)))
