-- A whole list is what its first box and the boxes after it are; lists one after another; boxes put in front. Assumes nothing.
use Prim.Native.Nat.{ℕ, zero, suc, ◌≤◌, ◌<◌}
use native.Mathlib.Nat.{le_refl}
use native.Mathlib.Omega.{arith}
use mathlib.Core.Path.{◌≡◌, refl, sym, ◌∙◌, ap}
use mathlib.Core.Bool.{Bool, true, false, not, ◌||◌, false≢true}
use mathlib.Core.List.{List, ◌++◌}
use borrow.Author.Tests.{leb-true, le-leb, eq-eqb, ne_eqb}
use lib.Dec.{eqb}
use lib.ListN.{length, drop, length-drop, length-append}
use lib.Seq.{slice, length-slice, take-append-le, drop-append-le}
use Rattle.laws.specs.Bytes.{de}
use Rattle.laws.specs.ByLength.{Local}
use Rattle.laws.specs.Tests.{◌and◌}
use Rattle.laws.proofs.ByLengthLaws.{by-step}
use Rattle.laws.proofs.SliceLaws.{slice-to-end, slice-join}
use Rattle.laws.proofs.TestLaws.{left, right, both, and-true}
use Rattle.cmaf_read_tree.specs.Whole.{size_of, kind_of, inside_of, after_of, sized, container, whole_by, whole}

-- ---- a first box that stands in its list

pub record Sized (l : List ℕ) : Type 0 where
  pub long : 8 ≤ length l
  pub eight : 8 ≤ size_of l
  pub fits : size_of l ≤ length l

pub sized-says : (l : List ℕ) → sized l ≡ true → Sized l
unfolding sized
sized-says l e =
    record {
      long = leb-true _ _ (left _ _ e);
      eight = leb-true _ _ (left _ _ (right _ _ e));
      fits = leb-true _ _ (right _ _ (right _ _ e));
    }

pub sized-is : (l : List ℕ) → Sized l → sized l ≡ true
unfolding sized
sized-is l s = both _ _ (le-leb _ _ s.long) (both _ _ (le-leb _ _ s.eight) (le-leb _ _ s.fits))

module _ (l : List ℕ) (s : Sized l) where
  pub after_less : length (after_of l) < length l
  unfolding after_of
  after_less = omega (arith, length-drop (size_of l) l, s)

  pub inside-less : length (inside_of l) < length l
  unfolding inside_of
  inside-less = omega (arith, length-slice 8 (size_of l) l s.fits, s)

  -- past the head stand the box's inside and the boxes after it
  pub past_head : drop 8 l ≡ inside_of l ++ after_of l
  unfolding inside_of after_of
  past_head =
      sym (slice-to-end 8 (length l) l refl)
      ∙ slice-join 8 (size_of l) (length l) l s.eight s.fits (omega arith)
      ∙ ap (λ (x : List ℕ). slice 8 (size_of l) l ++ x) (slice-to-end (size_of l) (length l) l refl)

  -- whatever is put behind the list, its first box is the same
  module _ (m : List ℕ) where
    pub size-append : size_of (l ++ m) ≡ size_of l
    unfolding size_of
    size-append = ap de (take-append-le 4 l m (omega (arith, s)))

    pub kind-append : kind_of (l ++ m) ≡ kind_of l
    unfolding kind_of
    kind-append = ap (λ (x : List ℕ). de (drop 4 x)) (take-append-le 8 l m s.long)

    pub inside-append : inside_of (l ++ m) ≡ inside_of l
    unfolding inside_of
    inside-append = ap (λ (n : ℕ). slice 8 n (l ++ m)) size-append ∙ ap (drop 8) (take-append-le (size_of l) l m s.fits)

    pub after-append : after_of (l ++ m) ≡ after_of l ++ m
    unfolding after_of
    after-append = ap (λ (n : ℕ). drop n (l ++ m)) size-append ∙ drop-append-le (size_of l) l m s.fits

    pub sized-append : Sized (l ++ m)
    sized-append =
        record {
          long = omega (arith, s, length-append l m);
          eight = omega (arith, s, size-append);
          fits = omega (arith, s, size-append, length-append l m);
        }

-- ---- the equation

-- where the second test matters only if the first holds
pub and-cong : (a : Bool) {x y : Bool} → (a ≡ true → x ≡ y) → (a and x) ≡ (a and y)
unfolding ◌and◌
and-cong true h = h refl
and-cong false h = refl

-- what is asked of the first box, by what is said of the list inside it
abbrev pub first_by : Bool → List ℕ → Bool
first_by inner l = not (container (kind_of l)) || inner

whole-local : Local whole_by
whole-local f g l h =
    ap (λ (x : Bool). eqb (length l) 0 || x)
    (and-cong (sized l)
    (λ e.
    let s = sized-says l e in
    ap (λ (x : Bool). first_by x l and f (after_of l)) (h (inside_of l) (inside-less l s))
    ∙ ap (λ (x : Bool). first_by (g (inside_of l)) l and x) (h (after_of l) (after_less l s))))

pub whole-step : (l : List ℕ) → whole l ≡ whole_by whole l
unfolding whole
whole-step l = by-step true whole_by whole-local l

pub whole-empty : (l : List ℕ) → length l ≡ 0 → whole l ≡ true
whole-empty l e = whole-step l ∙ simp (eq-eqb (length l) 0 e)

whole-some : (l : List ℕ) → 0 < length l → whole l ≡ (sized l and (first_by (whole (inside_of l)) l and whole (after_of l)))
whole-some l h = whole-step l ∙ simp (ne_eqb (length l) 0 (omega arith))

-- no box stands at the front
pub whole-broken : (l : List ℕ) → 0 < length l → sized l ≡ false → whole l ≡ false
unfolding ◌and◌
whole-broken l h e = whole-some l h ∙ simp e

-- one does
pub whole-sized : (l : List ℕ) → Sized l → whole l ≡ (first_by (whole (inside_of l)) l and whole (after_of l))
whole-sized l s = whole-some l (omega (arith, s)) ∙ and-true _ (sized-is l s)

-- ---- what a whole list gives

-- a container's inside is whole
first-inside : (c : Bool) {inner : Bool} → (not c || inner) ≡ true → c ≡ true → inner ≡ true
first-inside true e h = e
first-inside false e h = absurd (false≢true h)

pub record First (l : List ℕ) : Type 0 where
  pub is-sized : Sized l
  pub inside-whole : container (kind_of l) ≡ true → whole (inside_of l) ≡ true
  pub after-whole : whole (after_of l) ≡ true

-- of a list that is whole and has something in it: the first box's size is at least 8 and at most the list's length, a container's inside is
-- whole, and so are the boxes after it
pub whole-first : (l : List ℕ) → 0 < length l → whole l ≡ true → First l
whole-first l h w =
    let e = sym (whole-some l h) ∙ w in
    record {
      is-sized = sized-says l (left _ _ e);
      inside-whole = λ k. first-inside (container (kind_of l)) (left _ _ (right _ _ e)) k;
      after-whole = right _ _ (right _ _ e);
    }

-- a box is whole if its inside is where it is a container
pub first_holds : (c : Bool) {inner : Bool} → (c ≡ true → inner ≡ true) → (not c || inner) ≡ true
first_holds true h = h refl
first_holds false h = refl

-- and the other way round
pub first-whole : (l : List ℕ) → First l → whole l ≡ true
first-whole l f =
    whole-sized l f.is-sized ∙ both _ _ (first_holds (container (kind_of l)) f.inside-whole) f.after-whole

-- ---- induction

-- what holds of a list if it holds of all that are shorter holds of every list
pub by-shorter : (P : List ℕ → Type 0) → ((l : List ℕ) → ((m : List ℕ) → length m < length l → P m) → P l) → (l : List ℕ) → P l
by-shorter P step l = within (length l) l (le_refl (length l))
  where
    within : (n : ℕ) (m : List ℕ) → length m ≤ n → P m
    within zero m h = step m (λ k lt. absurd (omega arith))
    within (suc n) m h = step m (λ k lt. within n k (omega arith))
