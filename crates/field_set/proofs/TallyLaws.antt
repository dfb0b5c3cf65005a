-- The loop that tallies the subsample counts, and what the limit of each comes from. Assumes nothing.
use Prim.Native.Nat.{ℕ, ◌+◌, ◌-◌, ◌*◌, ◌/◌, ◌%◌, ◌≤◌, ◌<◌}
use native.Mathlib.Nat.{mod-eq_of_lt}
use native.Mathlib.Numerals.{add-one}
use native.Mathlib.Omega.{arith}
use mathlib.Core.Path.{◌≡◌, refl, sym, ◌∙◌, ap}
use mathlib.Core.Bool.{Bool, true, false, false≢true, ◌&&◌}
use mathlib.Core.List.{List, [], ◌∷◌}
use borrow.Author.Tests.{leb-true, le-leb}
use lib.Dec.{leb}
use lib.ListN.{length, get_or}
use lib.Seq.{slice, slice-cons}
use Rattle.constants.specs.Maxima.{samples_most, entry_most}
use Rattle.laws.specs.Tests.{◌and◌, all_le, sum}
use Rattle.laws.proofs.SliceLaws.{slice-none}
use Rattle.laws.proofs.TestLaws.{and-next, and-end, same_test}
use Rattle.field_set.specs.Lawful.{saiz_ok, TallyOf}

-- a tally of the words before i, and what is left of them
pub record Tallying (w : List ℕ) (from to most : ℕ) (ok : Bool) (n i : ℕ) : Type 0 where
  pub inside : to ≤ length w
  pub few : to ≤ from + samples_most
  pub low : most ≤ 63
  pub place : i ≤ from + samples_most
  pub small : n + 64 * from ≤ samples_most * i
  pub within : (ok and all_le most (slice i to w)) ≡ all_le most (slice from to w)
  pub total : ok ≡ true → n + sum (slice i to w) ≡ sum (slice from to w)

-- the tally of no word
pub tally-none : (most : ℕ) → TallyOf (record { ok = true; sum = 0 }) most []
unfolding all_le sum
tally-none most = record { within = refl; total = λ _. refl; small = omega arith }

module _ (w : List ℕ) (from to most : ℕ) where
  -- no word is tallied yet
  pub tally-start : to ≤ length w → to ≤ from + samples_most → most ≤ 63 → Tallying w from to most true 0 from
  unfolding ◌and◌
  tally-start a b d =
      record {
        inside = a;
        few = b;
        low = d;
        place = omega arith;
        small = omega arith;
        within = refl;
        total = λ _. omega arith;
      }

  module _ (ok : Bool) (n i : ℕ) (h : Tallying w from to most ok n i) where
    -- a word that passes the test counts whole
    counted : (v : ℕ) → (ok && leb v most) ≡ true → (ok ≡ true) × (v % 64 ≡ v)
    counted v e = go ok (leb v most) refl e
      where
        go : (a b : Bool) → leb v most ≡ b → (a && b) ≡ true → (a ≡ true) × (v % 64 ≡ v)
        go true true p q = (refl, mod-eq_of_lt (omega (arith, leb-true v most p, h.low)))
        go true false p q = absurd (false≢true q)
        go false b p q = absurd (false≢true q)

    -- one word more
    pub tally-more : i < to → Tallying w from to most (ok && leb (get_or w i 0) most) (n + get_or w i 0 % 64) (i + 1)
    unfolding all_le sum
    tally-more lt =
        let v : ℕ = get_or w i 0 in
        let s : slice i to w ≡ v ∷ slice (i + 1) to w = rw add-one (slice-cons i to w 0 lt h.inside) in
        record {
          inside = h.inside;
          few = h.few;
          low = h.low;
          place = omega (arith, h.few);
          small = omega (arith, h.small);
          within = and-next ok (leb v most) _ ∙ rw s at h.within;
          total = λ e. let k = counted v e in omega (arith, k.1, rw s at (h.total k.0));
        }

    -- none is left
    pub tally-end : to ≤ i → TallyOf (record { ok = ok; sum = n }) most (slice from to w)
    unfolding all_le sum
    tally-end le =
        let s : slice i to w ≡ [] = slice-none i to w le in
        record {
          within = sym (and-end ok) ∙ rw s at h.within;
          total = λ e. omega (arith, rw s at (h.total e));
          small = omega (arith, h.small, h.place);
        }

-- a sample's `saiz` is small enough just where its subsample count is
pub saiz-is : (iv : ℕ) (s : List ℕ) → iv ≤ entry_most - 2 → saiz_ok iv s ≡ all_le ((entry_most - 2 - iv) / 6) s
unfolding saiz_ok all_le
saiz-is iv [] h = refl
saiz-is iv (c ∷ s) h =
    ap (λ (b : Bool). b and saiz_ok iv s) one ∙ ap (λ (b : Bool). leb c ((entry_most - 2 - iv) / 6) and b) (saiz-is iv s h)
  where
    one : leb (iv + (2 + 6 * c)) entry_most ≡ leb c ((entry_most - 2 - iv) / 6)
    one =
        same_test _ _
        (λ e. le-leb c ((entry_most - 2 - iv) / 6) (omega (arith, leb-true (iv + (2 + 6 * c)) entry_most e)))
        (λ e. le-leb (iv + (2 + 6 * c)) entry_most (omega (arith, leb-true c ((entry_most - 2 - iv) / 6) e)))
