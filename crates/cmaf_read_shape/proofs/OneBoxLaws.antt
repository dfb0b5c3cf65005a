-- A list that is one whole box, or none: found where it is looked for, and nothing to a tree of boxes that follows. Assumes nothing.
use Prim.Native.Nat.{ℕ, ◌+◌, ◌*◌, ◌^◌, ◌<◌}
use native.Mathlib.Omega.{arith}
use mathlib.Core.Path.{◌≡◌, refl, sym, ◌∙◌, ap}
use mathlib.Core.Bool.{true, false}
use mathlib.Core.List.{List, [], ◌++◌}
use lib.ListN.{length}
use Rattle.laws.specs.Bytes.{be}
use Rattle.boxes.specs.Box.{box, full_box}
use Rattle.boxes.proofs.BoxLaws.{length-box}
use Rattle.cmaf_read_tree.specs.Whole.{size_of, kind_of, after_of, sized, container, whole}
use Rattle.cmaf_read_tree.proofs.WholeLaws.{sized-is}
use Rattle.cmaf_read_tree.proofs.BoxedLaws.{box-kind, box-size, box-after, box-sized, whole-front, leaf}
use Rattle.cmaf_read_shape.specs.Parts.{part, any_at, box_at}
use Rattle.cmaf_read_shape.specs.Left.{Left}
use Rattle.cmaf_read_shape.proofs.LeftLaws.{left-any, left-box, left_not}

-- one box, whose size 32 bits have; it is no container, or has whole boxes inside
pub record OneBox (kind : ℕ) (xs : List ℕ) : Type 0 where
  pub body : List ℕ
  pub is : xs ≡ box kind body
  pub fits : length xs < 2 ^ 32
  pub small : kind < 2 ^ 32
  pub inner : container kind ≡ true → whole body ≡ true

-- a box of a type that is no container
pub leaf-box : (kind : ℕ) (body : List ℕ) → length (box kind body) < 2 ^ 32 → kind < 2 ^ 32 → container kind ≡ false → OneBox kind (box kind body)
leaf-box kind body fits lt e = record { body = body; is = refl; fits = fits; small = lt; inner = leaf kind body e }

pub leaf-full : (kind version flags : ℕ) (body : List ℕ) → length (full_box kind version flags body) < 2 ^ 32 → kind < 2 ^ 32 → container kind ≡ false
    → OneBox kind (full_box kind version flags body)
unfolding full_box
leaf-full kind version flags body fits lt e = leaf-box kind (be 4 (version * 2 ^ 24 + flags) ++ body) fits lt e

module _ {kind : ℕ} {xs : List ℕ} (b : OneBox kind xs) where
  -- its size, by its body
  long : length xs ≡ 8 + length b.body
  long = ap length b.is ∙ length-box kind b.body

  body-fits : 8 + length b.body < 2 ^ 32
  body-fits = omega (arith, b.fits, long)

  -- a list with the box in front of it is whole where the list is
  pub one-front : (l : List ℕ) → whole (xs ++ l) ≡ whole l
  one-front l = rw b.is (whole-front kind b.body l body-fits b.small b.inner)

  -- how the list is read from its front
  pub one-kind : (l : List ℕ) → kind_of (xs ++ l) ≡ kind
  one-kind l = rw b.is (box-kind kind b.body l b.small)

  pub one-sized : (l : List ℕ) → sized (xs ++ l) ≡ true
  one-sized l = rw b.is (sized-is _ (box-sized kind b.body l body-fits))

  pub one_size : (l : List ℕ) → size_of (xs ++ l) ≡ length xs
  one_size l = ap (λ (x : List ℕ). size_of (x ++ l)) b.is ∙ box-size kind b.body l body-fits ∙ sym long

  pub one-after : (l : List ℕ) → after_of (xs ++ l) ≡ l
  one-after l = rw b.is (box-after kind b.body l body-fits)

  module _ {c : List ℕ} {at end : ℕ} (ys : List ℕ) (h : Left c at end (xs ++ ys)) where
    -- the reader finds it
    pub one_found : box_at c at end kind ≡ part at (length xs)
    one_found = left-box kind b.body ys body-fits (rw b.is at h) b.small ∙ ap (part at) (sym long)

    pub one-any : any_at c at end ≡ record { kind = kind; at = at; len = length xs }
    one-any = left-any kind b.body ys body-fits (rw b.is at h) b.small ∙ ap (λ (n : ℕ). record { kind = kind; at = at; len = n }) (sym long)

-- a box that may stand before others
pub data Maybe (kind : ℕ) (xs : List ℕ) : Type 0 where
  stands : OneBox kind xs → Maybe kind xs
  lacks : xs ≡ [] → Maybe kind xs

module _ {kind : ℕ} {xs : List ℕ} where
  pub maybe-front : Maybe kind xs → (l : List ℕ) → whole (xs ++ l) ≡ whole l
  maybe-front (stands b) l = one-front b l
  maybe-front (lacks e) l = rw e

  -- neither the box nor those behind it have another type
  pub maybe-not : {other : ℕ} (l : List ℕ) → Maybe kind xs → (kind ≡ other → ⊥) → (kind_of l ≡ other → ⊥) → kind_of (xs ++ l) ≡ other → ⊥
  maybe-not l (stands b) here behind e = here (sym (one-kind b l) ∙ e)
  maybe-not l (lacks q) here behind e = behind (rw q at e)

  -- it is found where it stands
  pub maybe-found : {c : List ℕ} {at end : ℕ} (l : List ℕ) → Maybe kind xs → Left c at end (xs ++ l) → (kind_of l ≡ kind → ⊥)
      → box_at c at end kind ≡ part at (length xs)
  maybe-found l (stands b) h behind = one_found b l h
  maybe-found l (lacks e) h behind = left_not kind (rw e at h) behind ∙ rw e
