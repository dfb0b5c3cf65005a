-- Lists that their boxes fill, and lists one after another. Assumes nothing.
use Prim.Native.Nat.{ℕ, ◌<◌}
use native.Mathlib.Omega.{arith}
use mathlib.Core.Path.{◌≡◌, refl, sym, ◌∙◌, ap}
use mathlib.Core.Bool.{Bool, true, false, not, ◌||◌, false≢true}
use mathlib.Core.List.{List, [], ◌∷◌, ◌++◌}
use borrow.Author.Tests.{eq-eqb, ne_eqb}
use lib.Dec.{eqb}
use lib.ListN.{length}
use Rattle.laws.specs.ByLength.{Local}
use Rattle.laws.specs.Tests.{◌and◌}
use Rattle.laws.proofs.ByLengthLaws.{by-step}
use Rattle.laws.proofs.TestLaws.{left, right, and_assoc, and-true}
use Rattle.cmaf_read_tree.specs.Whole.{inside_of, after_of, sized, container, whole}
use Rattle.cmaf_read_tree.specs.Fills.{fills_by, fills}
use Rattle.cmaf_read_tree.proofs.WholeLaws.{Sized, sized-says, sized-is, after_less, inside-append, kind-append, after-append, sized-append}
use Rattle.cmaf_read_tree.proofs.WholeLaws.{and-cong, first_by, whole-empty, whole-sized, whole-first, by-shorter}

fills-local : Local fills_by
fills-local f g l h =
    ap (λ (x : Bool). eqb (length l) 0 || x) (and-cong (sized l) (λ e. h (after_of l) (after_less l (sized-says l e))))

fills-step : (l : List ℕ) → fills l ≡ fills_by fills l
unfolding fills
fills-step l = by-step true fills_by fills-local l

pub fills-empty : (l : List ℕ) → length l ≡ 0 → fills l ≡ true
fills-empty l e = fills-step l ∙ simp (eq-eqb (length l) 0 e)

fills-some : (l : List ℕ) → 0 < length l → fills l ≡ (sized l and fills (after_of l))
fills-some l h = fills-step l ∙ simp (ne_eqb (length l) 0 (omega arith))

pub fills-broken : (l : List ℕ) → 0 < length l → sized l ≡ false → fills l ≡ false
unfolding ◌and◌
fills-broken l h e = fills-some l h ∙ simp e

pub fills-sized : (l : List ℕ) → Sized l → fills l ≡ fills (after_of l)
fills-sized l s = fills-some l (omega (arith, s)) ∙ and-true _ (sized-is l s)

-- a whole list is filled by its boxes
pub whole-fills : (l : List ℕ) → whole l ≡ true → fills l ≡ true
whole-fills = by-shorter (λ l. whole l ≡ true → fills l ≡ true) step
  where
    step : (l : List ℕ) → ((m : List ℕ) → length m < length l → whole m ≡ true → fills m ≡ true) → whole l ≡ true → fills l ≡ true
    step [] ih w = fills-empty [] refl
    step (x ∷ l) ih w =
        let f = whole-first (x ∷ l) (omega arith) w in
        fills-sized (x ∷ l) f.is-sized ∙ ih (after_of (x ∷ l)) (after_less (x ∷ l) f.is-sized) f.after-whole

-- a list that its boxes don't fill isn't whole
pub unfilled : (l : List ℕ) → fills l ≡ false → whole l ≡ false
unfilled l e = by (whole l) refl
  where
    by : (t : Bool) → whole l ≡ t → whole l ≡ false
    by true w = absurd (false≢true (sym e ∙ whole-fills l w))
    by false w = w

-- behind a list that its boxes fill
pub whole_split : (a b : List ℕ) → fills a ≡ true → whole (a ++ b) ≡ (whole a and whole b)
whole_split a b = by-shorter (λ a. fills a ≡ true → whole (a ++ b) ≡ (whole a and whole b)) step a
  where
    step : (l : List ℕ) → ((m : List ℕ) → length m < length l → fills m ≡ true → whole (m ++ b) ≡ (whole m and whole b))
        → fills l ≡ true → whole (l ++ b) ≡ (whole l and whole b)
    step [] ih t = sym (and-true (whole b) (whole-empty [] refl))
    step (x ∷ r) ih t =
        let l : List ℕ = x ∷ r in
        let e = sym (fills-some l (omega arith)) ∙ t in
        let s = sized-says l (left _ _ e) in
        whole-sized (l ++ b) (sized-append l s b)
        ∙ ap (λ (k : ℕ). (not (container k) || whole (inside_of (l ++ b))) and whole (after_of (l ++ b))) (kind-append l s b)
        ∙ ap (λ (i : List ℕ). first_by (whole i) l and whole (after_of (l ++ b))) (inside-append l s b)
        ∙ ap (λ (i : List ℕ). first_by (whole (inside_of l)) l and whole i) (after-append l s b)
        ∙ ap (λ (x : Bool). first_by (whole (inside_of l)) l and x) (ih (after_of l) (after_less l s) (right _ _ e))
        ∙ sym (and_assoc (first_by (whole (inside_of l)) l) (whole (after_of l)) (whole b))
        ∙ ap (λ (x : Bool). x and whole b) (sym (whole-sized l s))

-- a whole list in front changes nothing
pub whole_append : (a b : List ℕ) → whole a ≡ true → whole (a ++ b) ≡ whole b
whole_append a b w = whole_split a b (whole-fills a w) ∙ and-true (whole b) w
