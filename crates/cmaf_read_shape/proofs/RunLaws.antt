-- The run of `emsg` boxes, and the loop over it. Assumes nothing.
use Prim.Native.Nat.{ℕ, suc, ◌+◌, ◌-◌, ◌*◌, ◌≤◌, ◌<◌}
use native.Mathlib.Nat.{le_refl}
use native.Mathlib.Omega.{arith}
use mathlib.Core.Path.{◌≡◌, refl, sym, ◌∙◌, ap, ap₂, subst}
use mathlib.Core.Bool.{Bool, true, false, cond}
use mathlib.Core.List.{List}
use lib.Dec.{eqb}
use lib.ListN.{length, drop, length-drop}
use lib.Seq.{drop-drop}
use Rattle.laws.specs.ByLength.{Local}
use Rattle.laws.specs.Tests.{◌and◌}
use Rattle.laws.proofs.ByLengthLaws.{by-step}
use Rattle.laws.proofs.SliceLaws.{slice-to-end}
use Rattle.laws.proofs.TestLaws.{left}
use Rattle.boxes.specs.Box as kinds
use Rattle.cmaf_read_tree.specs.Whole.{size_of, kind_of, after_of, sized}
use Rattle.cmaf_read_tree.proofs.WholeLaws.{Sized, sized-says, after_less, by-shorter}
use Rattle.byte_parts.specs.declared.Part.{Part}
use Rattle.cmaf_read_shape.specs.declared.top.Row.{Row}
use Rattle.cmaf_read_shape.specs.Parts.{box_at, list_at}
use Rattle.cmaf_read_shape.specs.Top.{row, emsgs_by, emsgs, emsgs_from}
use Rattle.cmaf_read_shape.proofs.PartLaws.{box-place, box-none, box-test, box-sized, box-size, box-inside}

-- ---- the equation

-- an `emsg` box stands at the front of the list
abbrev pub leads : List ℕ → Bool
leads l = sized l and eqb (kind_of l) kinds.emsg

abbrev more : List ℕ → Row → Row
more l r = row (size_of l + r.end) (suc r.count)

emsgs-local : Local emsgs_by
emsgs-local f g l h = by (leads l) refl
  where
    by : (t : Bool) → leads l ≡ t → emsgs_by f l ≡ emsgs_by g l
    by true e = ap (λ (r : Row). cond (leads l) (more l r) (row 0 0)) (h (after_of l) (after_less l (sized-says l (left _ _ e))))
    by false e =
        ap (λ (t : Bool). cond t (more l (f (after_of l))) (row 0 0)) e ∙ sym (ap (λ (t : Bool). cond t (more l (g (after_of l))) (row 0 0)) e)

emsgs-step : (l : List ℕ) → emsgs l ≡ emsgs_by emsgs l
unfolding emsgs
emsgs-step l = by-step (row 0 0) emsgs_by emsgs-local l

pub emsgs-none : (l : List ℕ) → leads l ≡ false → emsgs l ≡ row 0 0
emsgs-none l e = emsgs-step l ∙ ap (λ (t : Bool). cond t (more l (emsgs (after_of l))) (row 0 0)) e

pub emsgs-more : (l : List ℕ) → leads l ≡ true → emsgs l ≡ row (size_of l + (emsgs (after_of l)).end) (suc (emsgs (after_of l)).count)
emsgs-more l e = emsgs-step l ∙ ap (λ (t : Bool). cond t (more l (emsgs (after_of l))) (row 0 0)) e

-- the run lies in the list, and each of its boxes has a head
pub record Run (l : List ℕ) (r : Row) : Type 0 where
  pub fits : r.end ≤ length l
  pub eights : 8 * r.count ≤ r.end

after-length : (l : List ℕ) → length (after_of l) ≡ length l - size_of l
unfolding after_of
after-length l = length-drop (size_of l) l

pub run_in : (l : List ℕ) → Run l (emsgs l)
run_in = by-shorter (λ l. Run l (emsgs l)) step
  where
    step : (l : List ℕ) → ((m : List ℕ) → length m < length l → Run m (emsgs m)) → Run l (emsgs l)
    step l ih = by (leads l) refl
      where
        by : (t : Bool) → leads l ≡ t → Run l (emsgs l)
        by true e =
            let s : Sized l = sized-says l (left _ _ e) in
            let r : Run (after_of l) (emsgs (after_of l)) = ih (after_of l) (after_less l s) in
            let n : length (after_of l) ≡ length l - size_of l = after-length l in
            subst (Run l) (sym (emsgs-more l e)) (record { fits = omega (arith, r.fits, s.fits); eights = omega (arith, r.eights, s.eight) })
        by false e = subst (Run l) (sym (emsgs-none l e)) (record { fits = omega arith; eights = omega arith })

-- ---- the loop

-- `count` boxes of the run from the place at on have been passed, up to the place p
pub record Running (c : List ℕ) (at count p : ℕ) : Type 0 where
  pub here : p ≤ length c
  pub eights : at + 8 * count ≤ p
  pub same : row (p + (emsgs (drop p c)).end) (count + (emsgs (drop p c)).count) ≡ emsgs_from c at

pub run-start : (c : List ℕ) (at : ℕ) → at ≤ length c → Running c at 0 at
unfolding emsgs_from
run-start c at h = record { here = h; eights = omega arith; same = ap (row (at + (emsgs (drop at c)).end)) (omega arith) }

list_all : (c : List ℕ) (p : ℕ) → list_at c p (length c) ≡ drop p c
list_all c p = slice-to-end p (length c) c refl

module _ {c : List ℕ} {at count p : ℕ} (h : Running c at count p) where
  ends : leads (drop p c) ≡ false → row p count ≡ emsgs_from c at
  ends e =
      let z : emsgs (drop p c) ≡ row 0 0 = emsgs-none (drop p c) e in
      let a : p ≡ p + (emsgs (drop p c)).end = omega (arith, ap (λ (r : Row). r.end) z) in
      let b : count ≡ count + (emsgs (drop p c)).count = omega (arith, ap (λ (r : Row). r.count) z) in
      ap₂ row a b ∙ h.same

  -- the list is at its end
  pub run_end : length c ≤ p → row p count ≡ emsgs_from c at
  run_end l = ends (not-leads (leads (drop p c)) refl)
    where
      not-leads : (t : Bool) → leads (drop p c) ≡ t → leads (drop p c) ≡ false
      not-leads true e = let s : Sized (drop p c) = sized-says _ (left _ _ e) in absurd (omega (arith, s.long, length-drop p c))
      not-leads false e = e

  -- the next box was looked for
  module _ {b : Part} (e : b ≡ box_at c p (length c) kinds.emsg) where
    -- there is none
    pub run-stop : b.len ≡ 0 → row p count ≡ emsgs_from c at
    run-stop z =
        ends
        (ap leads (sym (list_all c p)) ∙ box-none c p (length c) kinds.emsg (sym (ap (λ (q : Part). q.len) e) ∙ z))

    -- there is one
    module _ (s : b.len ≡ 0 → ⊥) where
      stands : (box_at c p (length c) kinds.emsg).len ≡ 0 → ⊥
      stands z = s (ap (λ (q : Part). q.len) e ∙ z)

      len_is : b.len ≡ (box_at c p (length c) kinds.emsg).len
      len_is = ap (λ (q : Part). q.len) e

      place_is : (box_at c p (length c) kinds.emsg).at ≡ p
      place_is = box-place c p (length c) kinds.emsg

      pub run_room : p + b.len ≤ length c
      run_room = omega (arith, len_is, place_is, box-inside c p (length c) kinds.emsg h.here (le_refl (length c)))

      is-sized : Sized (drop p c)
      is-sized = subst Sized (list_all c p) (box-sized c p (length c) kinds.emsg stands)

      size_is : b.len ≡ size_of (drop p c)
      size_is = len_is ∙ box-size c p (length c) kinds.emsg stands ∙ ap size_of (list_all c p)

      pub run_long : 8 ≤ b.len
      run_long = omega (arith, size_is, is-sized.eight)

      rest-is : after_of (drop p c) ≡ drop (p + b.len) c
      unfolding after_of
      rest-is = ap (λ (n : ℕ). drop n (drop p c)) (sym size_is) ∙ drop-drop b.len p c

      run_is : emsgs (drop p c) ≡ row (b.len + (emsgs (drop (p + b.len) c)).end) (suc (emsgs (drop (p + b.len) c)).count)
      run_is =
          emsgs-more (drop p c) (ap leads (sym (list_all c p)) ∙ box-test c p (length c) kinds.emsg stands)
          ∙ ap₂ (λ (n : ℕ) (m : List ℕ). row (n + (emsgs m).end) (suc (emsgs m).count)) (sym size_is) rest-is

      pub run_on : Running c at (count + 1) (p + b.len)
      run_on =
          let r : Row = emsgs (drop (p + b.len) c) in
          let i : p + b.len + r.end ≡ p + (emsgs (drop p c)).end = omega (arith, ap (λ (x : Row). x.end) run_is) in
          let j : count + 1 + r.count ≡ count + (emsgs (drop p c)).count = omega (arith, ap (λ (x : Row). x.count) run_is) in
          record { here = run_room; eights = omega (arith, run_long, h.eights); same = ap₂ row i j ∙ h.same }

-- the run from a place on lies in the chunk
module _ (c : List ℕ) (at : ℕ) where
  pub run-after : at ≤ (emsgs_from c at).end
  unfolding emsgs_from
  run-after = omega arith

  pub run_inside : at ≤ length c → (emsgs_from c at).end ≤ length c
  unfolding emsgs_from
  run_inside h = omega (arith, (run_in (drop at c)).fits, length-drop at c)

  pub run-eights : at + 8 * (emsgs_from c at).count ≤ (emsgs_from c at).end
  unfolding emsgs_from
  run-eights = omega (arith, (run_in (drop at c)).eights)

  -- what the loop has counted
  pub run-is-in : {r : Row} → at ≤ length c → r ≡ emsgs_from c at → (r ≡ emsgs_from c at) × (at ≤ r.end) × (r.end ≤ length c)
  run-is-in {r} h e = let q : r.end ≡ (emsgs_from c at).end = ap (λ (x : Row). x.end) e in (e, omega (arith, run-after), omega (arith, run_inside h))
