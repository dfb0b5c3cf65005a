-- Laws of the sums that an object's sizes and protected bytes are tested by. Assumes nothing.
use Prim.Native.Nat.{ℕ, zero, suc, ◌+◌, ◌-◌, ◌*◌, ◌≤◌, ◌<◌}
use native.Mathlib.Numerals.{add-one}
use native.Mathlib.Omega.{arith}
use mathlib.Core.Path.{◌≡◌, refl, sym, ◌∙◌, ap}
use mathlib.Core.Bool.{Bool, true, false, cond, ◌&&◌}
use mathlib.Core.List.{List}
use borrow.Author.Tests.{eq-eqb, ne_eqb, eqb-true, leb-true, not-false}
use lib.Dec.{eqb, leb}
use lib.ListN.{get_or}
use lib.Seq.{slice}
use Rattle.constants.specs.Maxima.{subsamples_most, payload_most}
use Rattle.laws.specs.Tests.{◌and◌, sum}
use Rattle.laws.proofs.SliceLaws.{slice-none}
use Rattle.laws.proofs.TestLaws.{and-next, and-end}
use Rattle.track.specs.declared.Track.{Track}
use Rattle.field_table.specs.Lines.{lines, line_for, sizes_at}
use Rattle.field_set.specs.Lawful.{has, values_of, in_use, value_at, count_in}
use Rattle.effective.specs.Sizes.{last_size, size_by, Sized}
use Rattle.field_set.proofs.ValueLaws.{pairs_left, pairs-all, pairs-on, listed}
use Rattle.effective.proofs.SizeLaws.{size-by}
use Rattle.told_sizes.specs.Sums.{pair_bytes, Summable}
use Rattle.effective.specs.Sums.{sizes_ok, samples_ok, protected_ok}

-- ---- sizes against the payload

module _ (t : Track) (w : List ℕ) (payload : ℕ) where
  pub sizes-none : count_in w ≡ 0 → eqb payload 0 ≡ sizes_ok t w payload
  unfolding sizes_ok
  sizes-none h = rw (eq-eqb (count_in w) 0 h)

  pub sizes-lone : count_in w ≡ 1 → true ≡ sizes_ok t w payload
  unfolding sizes_ok
  sizes-lone h = let z : count_in w ≡ 0 → ⊥ = λ e. omega arith in rw (ne_eqb (count_in w) 0 z, eq-eqb (count_in w) 1 h)

  module _ (none : count_in w ≡ 0 → ⊥) (lone : count_in w ≡ 1 → ⊥) where
    pub sizes-listed : has 1 w ≡ true → (r : ℕ) → r ≡ sum (slice 3 (2 + count_in w) w) → leb r payload ≡ sizes_ok t w payload
    unfolding sizes_ok
    sizes-listed h r e = rw (ne_eqb (count_in w) 0 none, ne_eqb (count_in w) 1 lone, h, listed w (omega arith) h, e)

    pub sizes-default : has 1 w ≡ false → has 6 w ≡ true → eqb (count_in w * value_at 6 0 w) payload ≡ sizes_ok t w payload
    unfolding sizes_ok
    sizes-default h g = rw (ne_eqb (count_in w) 0 none, ne_eqb (count_in w) 1 lone, h, g)

    pub sizes-trex : has 1 w ≡ false → has 6 w ≡ false → eqb (count_in w * t.size) payload ≡ sizes_ok t w payload
    unfolding sizes_ok
    sizes-trex h g = rw (ne_eqb (count_in w) 0 none, ne_eqb (count_in w) 1 lone, h, g)

  -- none listed
  unlisted : (m : ℕ) → has 1 w ≡ false → sum (values_of 1 m w) ≡ 0
  unfolding values_of in_use has lines line_for sum
  unlisted m h = rw (not-false (eqb (get_or w sizes_at 0) 0) h) (ap sum (slice-none (sizes_at + 1) (sizes_at + 1) w (omega arith)))

  few-listed : (m : ℕ) → m ≡ 0 → sum (values_of 1 m w) ≡ 0
  unfolding values_of in_use lines line_for sum
  few-listed m h = rw h (go (eqb (get_or w sizes_at 0) 0))
    where
      go : (b : Bool) → sum (slice (sizes_at + 1) ((sizes_at + 1) + cond b 0 0) w) ≡ 0
      go true = ap sum (slice-none (sizes_at + 1) (sizes_at + 1) w (omega arith))
      go false = ap sum (slice-none (sizes_at + 1) (sizes_at + 1) w (omega arith))

  -- sizes that add up leave a last size
  pub sizes-sized : sizes_ok t w payload ≡ true → payload ≤ payload_most → Sized w payload
  unfolding sizes_ok
  sizes-sized e few = record { sizes = go (eqb (count_in w) 0) (eqb (count_in w) 1) (has 1 w) refl refl refl e; few = few }
    where
      go : (a b c : Bool) → eqb (count_in w) 0 ≡ a → eqb (count_in w) 1 ≡ b → has 1 w ≡ c
          → cond a (eqb payload 0)
          (cond b true
          (cond c (leb (sum (values_of 1 (count_in w - 1) w)) payload)
          (cond (has 6 w) (eqb (count_in w * value_at 6 0 w) payload) (eqb (count_in w * t.size) payload))))
          ≡ true
          → sum (values_of 1 (count_in w - 1) w) ≤ payload
      go true b c p q r d =
          let n : count_in w ≡ 0 = eqb-true _ _ p in
          omega (arith, few-listed (count_in w - 1) (omega arith))
      go false true c p q r d =
          let n : count_in w ≡ 1 = eqb-true _ _ q in
          omega (arith, few-listed (count_in w - 1) (omega arith))
      go false false true p q r d = leb-true _ _ d
      go false false false p q r d = omega (arith, unlisted (count_in w - 1) r)

-- ---- protected bytes against the sizes

-- the samples by the last size, which code works out once
unfoldable pub matched : List ℕ → ℕ → ℕ → ℕ → ℕ → Bool
matched w last zero i j = true
matched w last (suc k) i j =
    eqb (pair_bytes w j (value_at 11 i w)) (size_by w last i) and matched w last k (suc i) (j + value_at 11 i w)

matched-is : (t : Track) (w : List ℕ) (payload k i j : ℕ) → samples_ok t w payload k i j ≡ matched w (last_size t w payload) k i j
unfolding samples_ok matched
matched-is t w payload zero i j = refl
matched-is t w payload (suc k) i j = rw (size-by t w payload i, matched-is t w payload k (suc i) (j + value_at 11 i w))

-- the samples before i were looked at, with j subsamples and this outcome
pub record Matching (w : List ℕ) (n last : ℕ) (ok : Bool) (j i : ℕ) : Type 0 where
  pub place : i ≤ n
  pub pairs : j + pairs_left w n i ≤ subsamples_most
  pub rest : (ok and matched w last (n - i) i j) ≡ matched w last n 0 0

module _ {w : List ℕ} (s : Summable w) (last : ℕ) where
  pub match-start : Matching w (count_in w) last true 0 0
  unfolding ◌and◌
  match-start =
      let z : count_in w - 0 ≡ count_in w = omega arith in
      record {
        place = omega arith;
        pairs = omega (arith, pairs-all w (count_in w), s.subsamples);
        rest = rw z;
      }

  module _ (on : has 11 w ≡ true) (ok : Bool) (j i : ℕ) (h : Matching w (count_in w) last ok j i) (lt : i < count_in w) where
    counts : j + value_at 11 i w + pairs_left w (count_in w) (i + 1) ≤ subsamples_most
    counts = pairs-on w (count_in w) i s.words s.few lt j subsamples_most (rw on) h.pairs

    -- its subsamples are among the first 256
    pub match-fits : j + value_at 11 i w ≤ subsamples_most
    match-fits = omega (arith, counts)

    pub match-next : (bytes : ℕ) → bytes ≡ pair_bytes w j (value_at 11 i w) → (size : ℕ) → size ≡ size_by w last i
        → Matching w (count_in w) last (ok && eqb bytes size) (j + value_at 11 i w) (i + 1)
    unfolding matched
    match-next bytes d size z =
        let n : count_in w - i ≡ suc (count_in w - suc i) = omega arith in
        record {
          place = omega arith;
          pairs = counts;
          rest = and-next ok (eqb bytes size) _ ∙ rw (d, z, add-one i) (rw n at h.rest);
        }

module _ (t : Track) (w : List ℕ) (payload : ℕ) where
  pub match-end : has 11 w ≡ true → (last : ℕ) → last ≡ last_size t w payload → (ok : Bool) (j i : ℕ)
      → Matching w (count_in w) last ok j i → count_in w ≤ i → ok ≡ protected_ok t w payload
  unfolding matched protected_ok
  match-end on last e ok j i h le =
      let n : count_in w - i ≡ 0 = omega arith in
      rw on (sym (and-end ok) ∙ rw n at h.rest ∙ rw e (sym (matched-is t w payload (count_in w) 0 0)))

  pub match_none : has 11 w ≡ false → true ≡ protected_ok t w payload
  unfolding protected_ok
  match_none h = rw h
