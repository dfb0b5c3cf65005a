-- A written box in front of a list: how it is read, and whether the list is whole. Assumes nothing.
use Prim.Native.Nat.{ℕ, ◌+◌, ◌^◌, ◌<◌}
use native.Mathlib.Omega.{arith}
use mathlib.Core.Path.{◌≡◌, refl, sym, ◌∙◌, ap}
use mathlib.Core.Bool.{true, false, not, ◌||◌, false≢true}
use mathlib.Core.List.{List, [], ◌++◌, append-nil}
use lib.ListN.{length, drop, length-append}
use lib.Seq.{slice, drop-drop, drop-append_seam}
use Rattle.laws.specs.Bytes.{be}
use Rattle.laws.specs.Tests.{◌and◌}
use Rattle.laws.proofs.BytesLaws.{de-be-small}
use Rattle.laws.proofs.SliceLaws.{slice-between}
use Rattle.laws.proofs.TestLaws.{and-true}
use Rattle.boxes.specs.Box.{box}
use Rattle.boxes.proofs.BoxLaws.{length-box}
use Rattle.cmaf_read_tree.specs.Whole.{size_of, kind_of, inside_of, after_of, container, whole}
use Rattle.cmaf_read_tree.proofs.WholeLaws.{Sized, whole-sized, whole-empty, first_holds}

module _ (type : ℕ) (body l : List ℕ) where
  pub box-kind : type < 2 ^ 32 → kind_of (box type body ++ l) ≡ type
  unfolding kind_of box be
  box-kind h = de-be-small 4 type h

  module _ (fits : 8 + length body < 2 ^ 32) where
    pub box-size : size_of (box type body ++ l) ≡ 8 + length body
    unfolding size_of box be
    box-size = de-be-small 4 (8 + length body) fits

    pub box-inside : inside_of (box type body ++ l) ≡ body
    unfolding inside_of box be
    box-inside =
        ap (λ (n : ℕ). slice 8 n (box type body ++ l)) box-size ∙ slice-between (be 4 (8 + length body) ++ be 4 type) body l

    pub box-after : after_of (box type body ++ l) ≡ l
    unfolding after_of box be
    box-after =
        ap (λ (n : ℕ). drop n (box type body ++ l)) box-size
        ∙ sym (drop-drop (length body) 8 (box type body ++ l))
        ∙ drop-append_seam body l

    pub box-sized : Sized (box type body ++ l)
    box-sized =
        let n : length (box type body ++ l) ≡ 8 + length body + length l =
        length-append (box type body) l ∙ ap (λ (m : ℕ). m + length l) (length-box type body) in
        record { long = omega arith; eight = omega (arith, box-size); fits = omega (arith, box-size) }

    -- a list with a box put in front of it
    pub whole-box : type < 2 ^ 32 → whole (box type body ++ l) ≡ ((not (container type) || whole body) and whole l)
    whole-box h =
        whole-sized (box type body ++ l) box-sized
        ∙ ap (λ (k : ℕ). (not (container k) || whole (inside_of (box type body ++ l))) and whole (after_of (box type body ++ l))) (box-kind h)
        ∙ ap (λ (m : List ℕ). (not (container type) || whole m) and whole (after_of (box type body ++ l))) box-inside
        ∙ ap (λ (m : List ℕ). (not (container type) || whole body) and whole m) box-after

    -- the box is whole, as its type is no container or its body is whole: then the list is what it was
    pub whole-front : type < 2 ^ 32 → (container type ≡ true → whole body ≡ true) → whole (box type body ++ l) ≡ whole l
    whole-front h w = whole-box h ∙ and-true (whole l) (first_holds (container type) w)

-- one box alone
pub whole-alone : (type : ℕ) (body : List ℕ) → 8 + length body < 2 ^ 32 → type < 2 ^ 32 → (container type ≡ true → whole body ≡ true)
    → whole (box type body) ≡ true
whole-alone type body fits h w = ap whole (sym (append-nil (box type body))) ∙ whole-front type body [] fits h w ∙ whole-empty [] refl

-- nothing is asked of the body of a box that is no container
pub leaf : (type : ℕ) (body : List ℕ) → container type ≡ false → container type ≡ true → whole body ≡ true
leaf type body e c = absurd (false≢true (sym e ∙ c))
