-- Words stored in the room of the IVs leave all that stands outside of it, and what is said of a set by that, as it was. Assumes nothing.
use Prim.Native.Nat.{ℕ, zero, suc, ◌+◌, ◌-◌, ◌≤◌}
use native.Mathlib.Omega.{arith}
use mathlib.Core.Path.{◌≡◌, refl, ◌∙◌, ap, ap₂}
use mathlib.Core.Logic.{◌⊎◌, inl, inr}
use mathlib.Core.Bool.{Bool, true, false, cond, not}
use mathlib.Core.List.{List, ◌∷◌}
use borrow.Author.Tests.{ltb-true}
use lib.Dec.{eqb, leb, ltb}
use lib.ListN.{length, get_or, drop}
use lib.Seq.{slice, sets, length-sets}
use Rattle.constants.specs.Maxima.{samples_most}
use Rattle.laws.proofs.StoreLaws.{word-before, word-behind}
use Rattle.laws.specs.Tests.{◌and◌, sum}
use Rattle.track.specs.declared.Track.{Track}
use Rattle.field_table.specs.Lines.{lines, line_for, ivs_at, subsamples_at}
use Rattle.field_set.specs.Lawful.{has, in_use, value_at, count_in, values_of}
use Rattle.told_sizes.specs.Sums.{bytes_of, pair_bytes, Summable}
use Rattle.effective.specs.Sizes.{size_of}
use Rattle.effective.specs.Sums.{sizes_ok, samples_ok, protected_ok}
use Rattle.iv_counter.specs.Counter.{following, counter_at}
use Rattle.counters.specs.Protected.{protected_of, protected_from}
use Rattle.counters.specs.Follow.{iv_words, derived}
use Rattle.counters.proofs.OutsideLaws.{Outside, take-before, slice-behind, mark-outside}

-- no more words are in use than a field wants
used_le : (mark k : ℕ) → in_use mark k ≤ k
unfolding in_use
used_le mark k = go (eqb mark 0)
  where
    go : (b : Bool) → cond b 0 k ≤ k
    go true = omega arith
    go false = omega arith

module _ (w vs : List ℕ) (room : ivs_at + 1 + length vs ≤ subsamples_at) where
  -- the set with other words in the room
  abbrev y : List ℕ
  y = sets w (ivs_at + 1) vs

  -- ---- what stands outside

  -- each word
  pub beside-word : (p : ℕ) → Outside p → get_or y p 0 ≡ get_or w p 0
  beside-word p (inl h) = word-before vs w (ivs_at + 1) p (omega arith)
  beside-word p (inr h) = word-behind vs w (ivs_at + 1) p (omega arith)

  -- each part
  pub beside-slice : (a b : ℕ) → (b ≤ ivs_at + 1) ⊎ (subsamples_at ≤ a) → slice a b y ≡ slice a b w
  beside-slice a b (inl h) = ap (drop a) (take-before vs w (ivs_at + 1) b h)
  beside-slice a b (inr h) = slice-behind vs w (ivs_at + 1) a b (omega arith)

  -- there are as many words
  pub beside-length : length y ≡ length w
  beside-length = length-sets w (ivs_at + 1) vs

  -- and as many samples
  pub beside-count : count_in y ≡ count_in w
  beside-count = beside-word 1 (inl (omega arith))

  -- the mark of each field
  pub beside-mark : (id : ℕ) → get_or y (line_for id lines).place 0 ≡ get_or w (line_for id lines).place 0
  beside-mark id = beside-word (line_for id lines).place (mark-outside id)

  -- so that the same fields stand
  pub beside-has : (id : ℕ) → has id y ≡ has id w
  unfolding has
  beside-has id = ap (λ (m : ℕ). not (eqb m 0)) (beside-mark id)

  -- a value of a field before the room or behind it
  pub beside-value : (id i : ℕ) → ((line_for id lines).place + 1 + i ≤ ivs_at) ⊎ (subsamples_at ≤ (line_for id lines).place) → value_at id i y ≡ value_at id i w
  beside-value id i (inl h) = beside-word ((line_for id lines).place + 1 + i) (inl h)
  beside-value id i (inr h) = beside-word ((line_for id lines).place + 1 + i) (inr (omega arith))

  -- the first n of them
  pub beside-values : (id n : ℕ) → ((line_for id lines).place + n ≤ ivs_at) ⊎ (subsamples_at ≤ (line_for id lines).place) → values_of id n y ≡ values_of id n w
  unfolding values_of
  beside-values id n h =
      ap (λ (m : ℕ). slice ((line_for id lines).place + 1) ((line_for id lines).place + 1 + in_use m n) y) (beside-mark id)
      ∙ beside-slice ((line_for id lines).place + 1) ((line_for id lines).place + 1 + in_use (get_or w (line_for id lines).place 0) n) (go h)
    where
      go : ((line_for id lines).place + n ≤ ivs_at) ⊎ (subsamples_at ≤ (line_for id lines).place)
          → ((line_for id lines).place + 1 + in_use (get_or w (line_for id lines).place 0) n ≤ ivs_at + 1) ⊎ (subsamples_at ≤ (line_for id lines).place + 1)
      go (inl k) = inl (omega (arith, used_le (get_or w (line_for id lines).place 0) n))
      go (inr k) = inr (omega arith)

  -- the sizes that id 1 lists
  pub beside-listed : (n : ℕ) → n ≤ samples_most → values_of 1 n y ≡ values_of 1 n w
  unfolding lines line_for
  beside-listed n h = beside-values 1 n (inl (omega arith))

  -- the subsample counts
  pub beside-counts : (n : ℕ) → values_of 11 n y ≡ values_of 11 n w
  unfolding lines line_for
  beside-counts n = beside-values 11 n (inr (omega arith))

  -- one of them
  pub beside-pairs : (i : ℕ) → value_at 11 i y ≡ value_at 11 i w
  unfolding lines line_for
  beside-pairs i = beside-value 11 i (inr (omega arith))

  -- the bytes of subsamples
  beside-bytes : (id j k : ℕ) → subsamples_at ≤ (line_for id lines).place → bytes_of id y j k ≡ bytes_of id w j k
  unfolding bytes_of
  beside-bytes id j k h = ap sum (beside-slice ((line_for id lines).place + 1 + j) ((line_for id lines).place + 1 + j + k) (inr (omega arith)))

  -- the clear ones
  pub beside-clear : (j k : ℕ) → bytes_of 13 y j k ≡ bytes_of 13 w j k
  unfolding lines line_for
  beside-clear j k = beside-bytes 13 j k (omega arith)

  -- and the protected ones
  pub beside-sum : (j k : ℕ) → bytes_of 15 y j k ≡ bytes_of 15 w j k
  unfolding lines line_for
  beside-sum j k = beside-bytes 15 j k (omega arith)

  -- sums stay within 64 bits
  pub beside-summable : Summable w → Summable y
  unfolding lines line_for
  beside-summable s =
      record {
        words = beside-length ∙ s.words;
        few = omega (arith, beside-count, s.few);
        sizes = rw (beside-slice 3 66 (inl (omega arith))) s.sizes;
        size = rw (beside-slice 201 202 (inl (omega arith))) s.size;
        subsamples = rw (beside-count, beside-counts (count_in w)) s.subsamples;
        clear = rw (beside-slice 466 722 (inr (omega arith))) s.clear;
        protected = rw (beside-slice 723 979 (inr (omega arith))) s.protected;
      }

  -- ---- what is said by it

  module _ (few : count_in w ≤ samples_most) (t : Track) (payload : ℕ) where
    -- a sample's size
    pub beside-size : (i : ℕ) → size_of t y payload i ≡ size_of t w payload i
    unfolding size_of lines line_for
    beside-size i =
        rw (beside-count, beside-has 1, beside-has 6, beside-listed (count_in w - 1) (omega arith), beside-word 201 (inl (omega arith))) (go (ltb i (count_in w - 1)) refl)
      where
        rest : ℕ
        rest = payload - sum (values_of 1 (count_in w - 1) w)

        go : (b : Bool) → ltb i (count_in w - 1) ≡ b
            → cond (leb (count_in w) 1) payload (cond (has 1 w) (cond b (value_at 1 i y) rest) (cond (has 6 w) (value_at 6 0 w) t.size))
            ≡ cond (leb (count_in w) 1) payload (cond (has 1 w) (cond b (value_at 1 i w) rest) (cond (has 6 w) (value_at 6 0 w) t.size))
        go true q = rw (beside-value 1 i (inl (omega (arith, ltb-true i (count_in w - 1) q))))
        go false q = refl

    -- its protected bytes
    pub beside-protected-of : (i j : ℕ) → protected_of t y payload i j ≡ protected_of t w payload i j
    unfolding protected_of
    beside-protected-of i j = rw (beside-has 11, beside-pairs i, beside-sum j (value_at 11 i w), beside-size i)

    -- those of k samples
    pub beside-protected-from : (k i j : ℕ) → protected_from t y payload k i j ≡ protected_from t w payload k i j
    unfolding protected_from
    beside-protected-from zero i j = refl
    beside-protected-from (suc k) i j =
        rw (beside-pairs i)
        (ap₂ (λ (n : ℕ) (ns : List ℕ). n ∷ ns) (beside-protected-of i j) (beside-protected-from k (suc i) (j + value_at 11 i w)))

    -- the counters that follow
    pub beside-derived : (last : ℕ) (r : List ℕ) → derived t last r y payload ≡ derived t last r w payload
    unfolding derived
    beside-derived last r =
        rw beside-count (ap (following (counter_at (iv_words t) (count_in r - 1) r) last) (beside-protected-from (count_in w) 0 0))

    -- the rule of number 16 on sizes
    pub beside-sizes : sizes_ok t y payload ≡ sizes_ok t w payload
    unfolding sizes_ok lines line_for
    beside-sizes = rw (beside-count, beside-has 1, beside-has 6, beside-listed (count_in w - 1) (omega arith), beside-word 201 (inl (omega arith)))

    -- and on protected sums, of k samples
    beside-samples : (k i j : ℕ) → samples_ok t y payload k i j ≡ samples_ok t w payload k i j
    unfolding samples_ok
    beside-samples zero i j = refl
    beside-samples (suc k) i j =
        rw (beside-pairs i, beside-clear j (value_at 11 i w), beside-sum j (value_at 11 i w), beside-size i)
        (ap (λ (b : Bool). eqb (pair_bytes w j (value_at 11 i w)) (size_of t w payload i) and b) (beside-samples k (suc i) (j + value_at 11 i w)))

    -- and of all
    pub beside-protected : protected_ok t y payload ≡ protected_ok t w payload
    unfolding protected_ok
    beside-protected = rw (beside-has 11, beside-count, beside-samples (count_in w) 0 0)
