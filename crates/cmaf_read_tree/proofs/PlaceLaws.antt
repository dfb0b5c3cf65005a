-- A loop over the boxes of a list: what holds at the place that it has come to. Assumes nothing.
use Prim.Native.Nat.{ℕ, ◌+◌, ◌-◌, ◌≤◌, ◌<◌}
use native.Mathlib.Omega.{arith}
use mathlib.Core.Path.{◌≡◌, refl, sym, ◌∙◌, ap}
use mathlib.Core.Bool.{Bool, true, false, not, ◌||◌}
use mathlib.Core.List.{List}
use lib.ListN.{length, take, drop, length-drop}
use lib.Seq.{slice, drop-drop}
use borrow.Author.Rules.{part_to_end}
use Rattle.laws.specs.Bytes.{de}
use Rattle.laws.specs.Tests.{◌and◌}
use Rattle.laws.proofs.SliceLaws.{slice-drop, slice-lent, take-slice, drop-slice}
use Rattle.laws.proofs.TestLaws.{and-true}
use Rattle.std.specs.Prelude.{None}
use Rattle.cmaf_read_tree.specs.Whole.{size_of, kind_of, inside_of, after_of, sized, container, whole, whole_box}
use Rattle.cmaf_read_tree.specs.Heads.{head_of}
use Rattle.cmaf_read_tree.specs.Fills.{fills}
use Rattle.cmaf_read_tree.proofs.WholeLaws.{past_head, first_by, whole-empty, whole-broken, whole-sized}
use Rattle.cmaf_read_tree.proofs.FillLaws.{fills-empty, fills-broken, fills-sized, unfilled, whole_split}
use Rattle.cmaf_read_tree.proofs.HeadLaws.{HeadAt, head-broken}

-- ---- any test of a list of boxes

-- the test passes an empty list, and fails where no box stands
pub record Boxwise (P : List ℕ → Bool) : Type 0 where
  pub empty : (l : List ℕ) → length l ≡ 0 → P l ≡ true
  pub broken : (l : List ℕ) → 0 < length l → sized l ≡ false → P l ≡ false

pub whole-boxwise : Boxwise whole
whole-boxwise = record { empty = whole-empty; broken = whole-broken }

pub fills-boxwise : Boxwise fills
fills-boxwise = record { empty = fills-empty; broken = fills-broken }

-- the loop has come to the place `at`: the list is what is left of it
pub record Passed (P : List ℕ → Bool) (s : List ℕ) (at : ℕ) : Type 0 where
  pub here : at ≤ length s
  pub same : P s ≡ P (drop at s)

pub passed_none : {P : List ℕ → Bool} (s : List ℕ) → Passed P s 0
passed_none s = record { here = omega arith; same = refl }

module _ {P : List ℕ → Bool} (b : Boxwise P) {s : List ℕ} {at : ℕ} (p : Passed P s at) where
  pub passed-all : length s ≤ at → true ≡ P s
  passed-all h = sym (p.same ∙ b.empty (drop at s) (omega (arith, length-drop at s)))

  pub passed-broken : at < length s → None ≡ head_of (drop at s) → false ≡ P s
  passed-broken h e = sym (p.same ∙ b.broken (drop at s) (omega (arith, length-drop at s)) (head-broken (drop at s) e))

-- ---- past the box at the place

module _ {s : List ℕ} {at n k : ℕ} (h : HeadAt s at n k) where
  after-at : after_of (drop at s) ≡ drop (at + n) s
  unfolding after_of
  after-at = ap (λ (m : ℕ). drop m (drop at s)) (sym h.size) ∙ drop-drop n at s

  pub fills-on : Passed fills s at → Passed fills s (at + n)
  fills-on p = record { here = h.room; same = p.same ∙ fills-sized (drop at s) h.is-sized ∙ ap fills after-at }

  -- what is lent of the box, from i bytes past its start on
  lent : (i : ℕ) → i ≤ n → take (at + n - (at + i)) (drop (at + i) s) ≡ slice i (size_of (drop at s)) (drop at s)
  lent i l =
      slice-lent (at + i) (at + n) s (omega arith) h.room
      ∙ sym (slice-drop at i n s (omega (arith, h.room)))
      ∙ ap (λ (m : ℕ). slice i m (drop at s)) h.size

  first-at : (not (container k) || whole (inside_of (drop at s))) ≡ first_by (whole (inside_of (drop at s))) (drop at s)
  first-at = ap (λ (j : ℕ). not (container j) || whole (inside_of (drop at s))) h.kind

  module _ (p : Passed whole s at) where
    whole-at : whole s ≡ ((not (container k) || whole (inside_of (drop at s))) and whole (drop (at + n) s))
    whole-at =
        p.same
        ∙ whole-sized (drop at s) h.is-sized
        ∙ ap (λ (l : List ℕ). first_by (whole (inside_of (drop at s))) (drop at s) and whole l) after-at
        ∙ ap (λ (x : Bool). x and whole (drop (at + n) s)) (sym first-at)

    -- the first box is whole, or not
    on : (not (container k) || whole (inside_of (drop at s))) ≡ true → Passed whole s (at + n)
    on e = record { here = h.room; same = whole-at ∙ and-true (whole (drop (at + n) s)) e }

    off : (not (container k) || whole (inside_of (drop at s))) ≡ false → false ≡ whole s
    unfolding ◌and◌
    off e = sym (whole-at ∙ simp e)

    -- the box check has looked at the box past its size field
    box-at : whole_box (take (at + n - (at + 4)) (drop (at + 4) s)) ≡ (not (container k) || whole (inside_of (drop at s)))
    unfolding whole_box kind_of inside_of
    box-at =
        let l : List ℕ = drop at s in
        let z = h.is-sized in
        ap (λ (x : List ℕ). not (container (de (slice 0 4 x))) || whole (drop 4 x)) (lent 4 (omega (arith, h.eight)))
        ∙ ap (λ (x : List ℕ). not (container (de x)) || whole (drop 4 (slice 4 (size_of l) l))) (take-slice 4 (size_of l) 4 l z.eight z.fits)
        ∙ ap (λ (x : List ℕ). not (container (kind_of l)) || whole x) (drop-slice 4 (size_of l) 4 l)
        ∙ ap (λ (j : ℕ). not (container j) || whole (inside_of l)) (sym h.kind)

    pub box-off : whole_box (take (at + n - (at + 4)) (drop (at + 4) s)) ≡ false → false ≡ whole s
    box-off e = off (sym box-at ∙ e)

    pub box-on : whole_box (take (at + n - (at + 4)) (drop (at + 4) s)) ≡ true → Passed whole s (at + n)
    box-on e = on (sym box-at ∙ e)

    -- the walk steps over a box that is no container
    pub leaf-on : container k ≡ false → Passed whole s (at + n)
    leaf-on e = on (ap (λ (c : Bool). not c || whole (inside_of (drop at s))) e)

    -- and into a container: the boxes inside it and those after it are one list
    module _ (c : container k ≡ true) where
      inside-at : take (at + n - (at + 8)) (drop (at + 8) s) ≡ inside_of (drop at s)
      unfolding inside_of
      inside-at = lent 8 h.eight

      first-is : (not (container k) || whole (inside_of (drop at s))) ≡ whole (inside_of (drop at s))
      first-is = ap (λ (t : Bool). not t || whole (inside_of (drop at s))) c

      pub into-off : fills (take (at + n - (at + 8)) (drop (at + 8) s)) ≡ false → false ≡ whole s
      into-off e = off (first-is ∙ unfilled (inside_of (drop at s)) (ap fills (sym inside-at) ∙ e))

      pub into-on : fills (take (at + n - (at + 8)) (drop (at + 8) s)) ≡ true → Passed whole s (at + 8)
      into-on e =
          let l : List ℕ = drop at s in
          record {
            here = omega (arith, h.room, h.eight);
            same =
                whole-at
                ∙ ap (λ (x : Bool). x and whole (drop (at + n) s)) first-is
                ∙ ap (λ (m : List ℕ). whole (inside_of l) and whole m) (sym after-at)
                ∙ sym (whole_split (inside_of l) (after_of l) (ap fills (sym inside-at) ∙ e))
                ∙ ap whole (sym (past_head l h.is-sized) ∙ drop-drop 8 at s);
          }

-- ---- the box check

module _ (b : List ℕ) (k : ℕ) (e : k ≡ de (slice 0 4 b)) where
  box-is : whole_box b ≡ (not (container k) || whole (drop 4 b))
  unfolding whole_box
  box-is = ap (λ (j : ℕ). not (container j) || whole (drop 4 b)) (sym e)

  pub box-leaf : container k ≡ false → true ≡ whole_box b
  box-leaf c = sym (box-is ∙ ap (λ (t : Bool). not t || whole (drop 4 b)) c)

  pub box-list : {r : Bool} → container k ≡ true → r ≡ whole (take (length b - 4) (drop 4 b)) → r ≡ whole_box b
  box-list c w = w ∙ ap whole (part_to_end b 4) ∙ sym (box-is ∙ ap (λ (t : Bool). not t || whole (drop 4 b)) c)
