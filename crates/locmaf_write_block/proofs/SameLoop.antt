-- Whether two lists are the same, and the loop that finds it. Assumes nothing.
use Prim.Native.Nat.{ℕ, ◌+◌, ◌≤◌, ◌<◌}
use native.Mathlib.Numerals.{add-one}
use native.Mathlib.Omega.{arith}
use mathlib.Core.Path.{◌≡◌, refl, sym, ◌∙◌, ap}
use mathlib.Core.Bool.{Bool, true, false, ◌&&◌}
use mathlib.Core.List.{List}
use lib.Dec.{eqb}
use lib.ListN.{length, get_or, drop, drop_of_length-le}
use lib.Seq.{drop-cons}
use Rattle.laws.specs.Tests.{◌and◌, same}
use Rattle.laws.proofs.TestLaws.{same-is, and-next, and-end}

-- lists of other lengths aren't the same
pub differ : (a b : List ℕ) → (length a ≡ length b → ⊥) → false ≡ same a b
differ a b h = go (same a b) refl
  where
    go : (t : Bool) → same a b ≡ t → false ≡ t
    go true e = absurd (h (ap length (same-is a b e)))
    go false e = refl

-- the numbers before i are compared
pub record Comparing (a b : List ℕ) (ok : Bool) (i : ℕ) : Type 0 where
  pub long : length a ≡ length b
  pub place : i ≤ length a
  pub whole : (ok and same (drop i a) (drop i b)) ≡ same a b

-- none yet, one more, and all
pub compare-start : (a b : List ℕ) → length a ≡ length b → Comparing a b true 0
unfolding ◌and◌
compare-start a b e = record { long = e; place = omega arith; whole = refl }

module _ (a b : List ℕ) (ok : Bool) (i : ℕ) (h : Comparing a b ok i) where
  pub compare-next : i < length a → Comparing a b (ok && eqb (get_or a i 0) (get_or b i 0)) (i + 1)
  unfolding same
  compare-next lt =
      let one : same (drop i a) (drop i b) ≡ (eqb (get_or a i 0) (get_or b i 0) and same (drop (i + 1) a) (drop (i + 1) b)) =
      rw (add-one, drop-cons a i 0 lt, drop-cons b i 0 (omega (arith, h.long))) in
      record {
        long = h.long;
        place = omega arith;
        whole = and-next ok _ _ ∙ ap (λ (t : Bool). ok and t) (sym one) ∙ h.whole;
      }

  pub compare-end : length a ≤ i → ok ≡ same a b
  unfolding same
  compare-end le =
      let past : length b ≤ i = omega (arith, h.long) in
      let none : same (drop i a) (drop i b) ≡ true = rw (drop_of_length-le a le, drop_of_length-le b past) in
      sym (and-end ok) ∙ ap (λ (t : Bool). ok and t) (sym none) ∙ h.whole
