-- What is left of a chunk, list by list, number by number and box by box: so a reader that adds up places meets what was written. Assumes nothing.
use Prim.Native.Nat.{ℕ, ◌+◌, ◌^◌, ◌≤◌, ◌<◌}
use native.Mathlib.Nat.{add-sub_cancel_left}
use native.Mathlib.Omega.{arith}
use mathlib.Core.Path.{◌≡◌, refl, sym, ◌∙◌, ap}
use mathlib.Core.Bool.{false, and-false}
use mathlib.Core.List.{List, [], ◌∷◌, ◌++◌, append-nil}
use borrow.Author.Tests.{eq-eqb, ne_eqb}
use lib.ListN.{length, take, drop, length-append}
use lib.Seq.{slice, drop-append_seam, take-append_seam, take_all}
use Rattle.laws.specs.Bytes.{be, de}
use Rattle.laws.specs.Tests.{◌and◌}
use Rattle.laws.proofs.BytesLaws.{length-be, be-one, de-be-small}
use Rattle.laws.proofs.SliceLaws.{take-slice, drop-slice, slice-lent}
use Rattle.laws.proofs.TestLaws.{and_is}
use Rattle.boxes.specs.Box.{box}
use Rattle.cmaf_read_tree.specs.Numbers.{u8}
use Rattle.cmaf_read_tree.specs.Whole.{kind_of, sized}
use Rattle.cmaf_read_tree.proofs.WholeLaws.{sized-is}
use Rattle.cmaf_read_tree.proofs.BoxedLaws.{box-kind, box-size, box-sized}
use Rattle.cmaf_read_shape.specs.Parts.{part, body_of, any_at, box_at}
use Rattle.cmaf_read_shape.specs.Left.{Left}
use Rattle.cmaf_read_shape.proofs.PartLaws.{body-long}

-- the whole chunk
pub left-all : (c : List ℕ) → Left c 0 (length c) c
left-all c = record { inside = omega arith; room = omega arith; is = take_all (length c) c (omega arith) }

module _ {c : List ℕ} {at end : ℕ} where
  -- past a list
  pub left-past : (xs ys : List ℕ) → Left c at end (xs ++ ys) → Left c (at + length xs) end ys
  left-past xs ys h =
      record {
        inside = h.inside;
        room = omega (arith, h.room, length-append xs ys);
        is = sym (drop-slice at end (length xs) c) ∙ ap (drop (length xs)) h.is ∙ drop-append_seam xs ys;
      }

  -- up to its end
  pub left-front : (xs ys : List ℕ) → Left c at end (xs ++ ys) → Left c at (at + length xs) xs
  left-front xs ys h =
      let n : at + length xs ≤ end = omega (arith, h.room, length-append xs ys) in
      record {
        inside = omega (arith, h.inside);
        room = refl;
        is =
            sym (take-slice at end (length xs) c n h.inside)
            ∙ ap (take (length xs)) h.is
            ∙ take-append_seam xs ys;
      }

  -- past a list, and past a number, to the place that the reader adds up
  pub left-to : {to : ℕ} (xs ys : List ℕ) → at + length xs ≡ to → Left c at end (xs ++ ys) → Left c to end ys
  left-to xs ys e h = rw e at (left-past xs ys h)

  pub left-on : {to : ℕ} (k v : ℕ) (ys : List ℕ) → at + k ≡ to → Left c at end (be k v ++ ys) → Left c to end ys
  left-on k v ys e h = left-to (be k v) ys (omega (arith, length-be k v)) h

  -- a number; and one that nothing follows
  pub left-number : (k v : ℕ) (ys : List ℕ) → v < 256 ^ k → Left c at end (be k v ++ ys) → de (slice at (at + k) c) ≡ v
  left-number k v ys b h =
      let f = left-front (be k v) ys h in
      ap (λ (n : ℕ). de (slice at (at + n) c)) (sym (length-be k v)) ∙ ap de f.is ∙ de-be-small k v b

  pub last-number : (k v : ℕ) → v < 256 ^ k → Left c at end (be k v) → de (slice at (at + k) c) ≡ v
  last-number k v b h = left-number k v [] b (rw append-nil h)

  -- a list, by its length
  pub left-part : (n : ℕ) (xs ys : List ℕ) → n ≡ length xs → Left c at end (xs ++ ys) → take n (drop at c) ≡ xs
  left-part n xs ys e h =
      let f : Left c at (at + length xs) xs = left-front xs ys h in
      ap (λ (m : ℕ). take m (drop at c)) (e ∙ sym (add-sub_cancel_left at (length xs)))
      ∙ slice-lent at (at + length xs) c (omega arith) f.inside
      ∙ f.is

-- ---- boxes

module _ {c : List ℕ} {at end : ℕ} where
  -- another box, or none, is at the front
  pub left_not : {l : List ℕ} (kind : ℕ) → Left c at end l → (kind_of l ≡ kind → ⊥) → box_at c at end kind ≡ part at 0
  unfolding box_at
  left_not {l} kind h apart = rw (h.is, ne_eqb (kind_of l) kind apart, and_is (sized l) false, and-false (sized l))

  -- no box is left
  pub left-none-any : Left c at end [] → any_at c at end ≡ record { kind = 0; at = at; len = 0 }
  unfolding any_at sized ◌and◌
  left-none-any h = rw h.is

  pub left-inside : (type : ℕ) (body ys : List ℕ) → Left c at end (box type body ++ ys) → Left c (at + 8) (at + 8 + length body) body
  unfolding box be
  left-inside type body ys h = left-front body ys (left-past (be 4 (8 + length body) ++ be 4 type) (body ++ ys) h)

  module _ (type : ℕ) (body ys : List ℕ) (fits : 8 + length body < 2 ^ 32) (h : Left c at end (box type body ++ ys)) (lt : type < 2 ^ 32) where
    -- whichever is looked for
    pub left-any : any_at c at end ≡ record { kind = type; at = at; len = 8 + length body }
    unfolding any_at
    left-any = rw (h.is, sized-is _ (box-sized type body ys fits), box-kind type body ys lt, box-size type body ys fits)

    -- the one that is looked for
    pub left-box : box_at c at end type ≡ part at (8 + length body)
    unfolding box_at ◌and◌
    left-box = rw (h.is, sized-is _ (box-sized type body ys fits), eq-eqb _ _ (box-kind type body ys lt), box-size type body ys fits)

-- the body of a box
pub body-part : (at n : ℕ) → body_of (part at (8 + n)) ≡ part (at + 8) n
body-part at n = sym (body-long (part at (8 + n)) (omega arith)) ∙ ap (part (at + 8)) (add-sub_cancel_left 8 n)

-- a byte
pub left-byte : {c : List ℕ} {at end : ℕ} (x : ℕ) (ys : List ℕ) → x < 256 → Left c at end (x ∷ ys) → u8 c at ≡ x
left-byte {c} {at} {end} x ys lt h = left-number {c = c} {at = at} {end = end} 1 x ys lt (rw (be-one x lt) h)
