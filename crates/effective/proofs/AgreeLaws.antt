-- An object whose sizes and protected sums are right leaves a set whose words agree as far as they tell. Assumes nothing.
use Prim.Native.Nat.{ℕ, zero, suc, ◌+◌, ◌-◌, ◌*◌, ◌≤◌, zero-le}
use native.Mathlib.Nat.{zero-add}
use native.Mathlib.Omega.{arith}
use mathlib.Core.Path.{◌≡◌, refl, sym, ◌∙◌, ap, subst}
use mathlib.Core.Bool.{Bool, true, false, cond, ◌||◌}
use mathlib.Core.List.{List}
use borrow.Author.Tests.{eqb-true, eqb-false, eq-eqb, leb-true, le-leb, lt-leb, ltb-false}
use lib.Dec.{eqb, leb, ltb}
use Rattle.laws.specs.Tests.{◌and◌, sum}
use Rattle.laws.proofs.TestLaws.{left, right, both}
use Rattle.track.specs.declared.Track.{Track}
use Rattle.field_set.specs.Lawful.{has, value_at, count_in, values_of}
use Rattle.field_set.proofs.ValueLaws.{pairs_left, pairs-all, pairs_end, pairs_next}
use Rattle.told_sizes.specs.Sums.{pair_bytes, Summable}
use Rattle.constants.specs.Maxima.{payload_most, subsamples_most}
use Rattle.told_sizes.specs.Told.{same_size, told_sum, may_have, samples_agree, sizes_agree}
use Rattle.told_sizes.proofs.SumLaws.{no_pairs, pairs-join}
use Rattle.effective.specs.Sizes.{size_of}
use Rattle.effective.specs.Sums.{sizes_ok, samples_ok, protected_ok}
use Rattle.effective.proofs.SizesAdd.{sizes_before, sizes-add}

module _ (t : Track) (w : List ℕ) (payload : ℕ) where
  -- a sample can have its own size
  pub size-may : (i : ℕ) → may_have t w i (size_of t w payload i) ≡ true
  unfolding may_have size_of
  size-may i = go (leb (count_in w) 1) (has 1 w) (ltb i (count_in w - 1)) refl
    where
      own : ℕ
      own = value_at 1 i w

      rest : ℕ
      rest = payload - sum (values_of 1 (count_in w - 1) w)

      last : (a : Bool) → (a || eqb own own) ≡ true
      last true = refl
      last false = eq-eqb own own refl

      go : (a b c : Bool) → ltb i (count_in w - 1) ≡ c
          → cond a true
          (cond b (leb (count_in w) (i + 1) || eqb own (cond a payload (cond b (cond c own rest) (same_size t w))))
          (eqb (same_size t w) (cond a payload (cond b (cond c own rest) (same_size t w)))))
          ≡ true
      go true b c q = refl
      go false true true q = last (leb (count_in w) (i + 1))
      go false true false q = rw (le-leb (count_in w) (i + 1) (omega (arith, ltb-false i (count_in w - 1) q)))
      go false false c q = eq-eqb (same_size t w) (same_size t w) refl

  -- so the samples agree where each has its size
  samples-agree : (k i j : ℕ) → samples_ok t w payload k i j ≡ true → samples_agree t w k i j ≡ true
  unfolding samples_ok samples_agree
  samples-agree zero i j h = refl
  samples-agree (suc k) i j h =
      both _ _ (subst (λ (n : ℕ). may_have t w i n ≡ true) (sym (eqb-true _ _ (left _ _ h))) (size-may i)) (samples-agree k (suc i) (j + value_at 11 i w) (right _ _ h))

  -- several samples
  many : eqb (count_in w) 0 ≡ false → eqb (count_in w) 1 ≡ false → leb (count_in w) 1 ≡ false
  many p q =
      let x : count_in w ≡ 0 → ⊥ = eqb-false _ _ p in
      let y : count_in w ≡ 1 → ⊥ = eqb-false _ _ q in
      lt-leb (count_in w) 1 (omega arith)

  -- what is told comes to no more than the payload
  told-most : sizes_ok t w payload ≡ true → told_sum t w ≤ payload
  unfolding sizes_ok told_sum
  told-most ok = go (eqb (count_in w) 0) (eqb (count_in w) 1) (has 1 w) (has 6 w) refl refl ok
    where
      go : (a b c d : Bool) → eqb (count_in w) 0 ≡ a → eqb (count_in w) 1 ≡ b
          → cond a (eqb payload 0)
          (cond b true
          (cond c (leb (sum (values_of 1 (count_in w - 1) w)) payload) (cond d (eqb (count_in w * value_at 6 0 w) payload) (eqb (count_in w * t.size) payload))))
          ≡ true
          → cond (leb (count_in w) 1) 0 (cond c (sum (values_of 1 (count_in w - 1) w)) (count_in w * cond d (value_at 6 0 w) t.size)) ≤ payload
      go true b c d p q h = let z : count_in w ≡ 0 = eqb-true _ _ p in rw (le-leb (count_in w) 1 (omega arith)) zero-le
      go false true c d p q h = let z : count_in w ≡ 1 = eqb-true _ _ q in rw (le-leb (count_in w) 1 (omega arith)) zero-le
      go false false true d p q h = rw (many p q) (leb-true _ _ h)
      go false false false true p q h = let e : count_in w * value_at 6 0 w ≡ payload = eqb-true _ _ h in rw (many p q) (omega arith)
      go false false false false p q h = let e : count_in w * t.size ≡ payload = eqb-true _ _ h in rw (many p q) (omega arith)

  module _ (s : Summable w) (on : has 11 w ≡ true) where
    -- all subsamples
    abbrev all : ℕ
    all = sum (values_of 11 (count_in w) w)

    -- the samples from i on: those before it have j subsamples, with as many bytes as their sizes
    bytes-from : (k i j : ℕ) → i + k ≡ count_in w → j + pairs_left w (count_in w) i ≡ all → pair_bytes w 0 j ≡ sizes_before t w payload i
        → samples_ok t w payload k i j ≡ true → pair_bytes w 0 all ≡ sizes_before t w payload (count_in w)
    unfolding samples_ok sizes_before
    bytes-from zero i j e q b h =
        let last : j ≡ all = omega (arith, q, pairs_end w (count_in w) i (omega arith)) in
        let end : i ≡ count_in w = omega arith in
        ap (pair_bytes w 0) (sym last) ∙ b ∙ ap (sizes_before t w payload) end
    bytes-from (suc k) i j e q b h =
        let c : pairs_left w (count_in w) i ≡ value_at 11 i w + pairs_left w (count_in w) (suc i) = pairs_next w (count_in w) i s.words s.few (omega arith) ∙ rw on in
        let few : j + value_at 11 i w ≤ subsamples_most = omega (arith, q, c, s.subsamples) in
        let own : pair_bytes w j (value_at 11 i w) ≡ size_of t w payload i = eqb-true _ _ (left _ _ h) in
        bytes-from k (suc i) (j + value_at 11 i w) (omega arith) (omega (arith, q, c))
        (omega (arith, pairs-join s j (value_at 11 i w) few, b, own)) (right _ _ h)

  -- the rule of number 16, kept by an object, leaves words that keep what they tell of it
  pub sums_kept : Summable w → payload ≤ payload_most → sizes_ok t w payload ≡ true → protected_ok t w payload ≡ true → sizes_agree t w ≡ true
  unfolding sizes_agree protected_ok sizes_before
  sums_kept s short ok h = go (has 11 w) refl h
    where
      go : (b : Bool) → has 11 w ≡ b → cond b (samples_ok t w payload (count_in w) 0 0) true ≡ true
          → cond b (samples_agree t w (count_in w) 0 0 and leb (pair_bytes w 0 (sum (values_of 11 (count_in w) w))) payload_most) (leb (told_sum t w) payload_most) ≡ true
      go true e r =
          let come : pair_bytes w 0 (all s e) ≡ payload =
          bytes-from s e (count_in w) 0 0 (zero-add (count_in w)) (zero-add (pairs_left w (count_in w) 0) ∙ pairs-all w (count_in w)) (no_pairs w) r ∙ sizes-add t w payload s.words s.few short ok in
          both _ _ (samples-agree (count_in w) 0 0 r) (le-leb (pair_bytes w 0 (all s e)) payload_most (omega (arith, come)))
      go false e r = le-leb (told_sum t w) payload_most (omega (arith, told-most ok))
