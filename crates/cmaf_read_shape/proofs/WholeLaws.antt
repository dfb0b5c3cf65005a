-- Boxes that stand where they must make a whole tree, so that the tree need not be looked at. Assumes nothing.
use Prim.Native.Nat.{ℕ, ◌+◌, ◌≤◌, ◌<◌}
use native.Mathlib.Omega.{arith}
use mathlib.Core.Path.{◌≡◌, refl, sym, ◌∙◌, ap}
use mathlib.Core.Bool.{Bool, true, false, cond, ◌&&◌}
use mathlib.Core.List.{List}
use mathlib.Core.Logic.{◌⊎◌, inl, inr}
use borrow.Author.Tests.{eqb-true}
use lib.Dec.{eqb}
use lib.ListN.{length, take, drop, length-take, length-drop}
use lib.Seq.{drop-drop, take-take}
use Rattle.laws.specs.Tests.{◌and◌}
use Rattle.laws.proofs.SliceLaws.{slice-drop, slice-to-end}
use Rattle.laws.proofs.TestLaws.{left, right, both_of}
use Rattle.boxes.specs.Box as kinds
use Rattle.cmaf_read_tree.specs.Whole.{size_of, kind_of, inside_of, after_of, sized, container, whole}
use Rattle.cmaf_read_tree.proofs.WholeLaws.{Sized, sized-says, after_less, whole-empty, first-whole, by-shorter}
use Rattle.cmaf_read_tree.proofs.BoxedLaws.{leaf}
use Rattle.byte_parts.specs.declared.Part.{Part}
use Rattle.cmaf_read_shape.specs.declared.parts.Any.{Any}
use Rattle.cmaf_read_shape.specs.declared.top.Row.{Row}
use Rattle.cmaf_read_shape.specs.Parts.{end_of, body_of, list_at, any_at, box_at}
use Rattle.cmaf_read_shape.specs.Top.{emsgs, emsgs_from, top_of, top_ok}
use Rattle.cmaf_read_shape.specs.Inner.{last_of, traf_of, inner_of, inner_ok}
use Rattle.cmaf_read_shape.proofs.PartLaws.{body-in}
use Rattle.cmaf_read_shape.proofs.RunLaws.{leads, emsgs-none, emsgs-more}
use Rattle.cmaf_read_shape.proofs.TopLaws.{top-says, top-eights}
use Rattle.cmaf_read_shape.proofs.InnerLaws.{Three, pick-len, one_each, InnerSays, inner-says, inner-eights}

-- the list that ends at the place end is whole from the place at on
abbrev Whole : List ℕ → ℕ → ℕ → Type 0
Whole c at end = whole (list_at c at end) ≡ true

-- ---- over a box

-- nothing is left
none : (c : List ℕ) {at end : ℕ} → at ≡ end → Whole c at end
none c {at} {end} e = whole-empty (list_at c at end) (omega (arith, length-drop at (take end c), length-take end c))

-- a list is whole from a box on if it is after the box, whose inside is whole where it is a container; where no box is found, nothing is passed
module _ (c : List ℕ) (at end : ℕ) where
  over : (t : Bool) → (t ≡ true → sized (list_at c at end) ≡ true)
      → let n = cond t (size_of (list_at c at end)) 0 in
      (t ≡ true → container (kind_of (list_at c at end)) ≡ true → Whole c (at + 8) (at + n)) → Whole c (at + n) end → Whole c at end
  unfolding inside_of after_of
  over true e i w =
      let l : List ℕ = list_at c at end in
      let s : Sized l = sized-says l (e refl) in
      let n = length-drop at (take end c) in
      let m = length-take end c in
      first-whole l
      (record {
        is-sized = s;
        inside-whole = λ k.
            ap whole
            (slice-drop at 8 (size_of l) (take end c) (omega (arith, s.long, n))
            ∙ ap (drop (at + 8)) (take-take (at + size_of l) end c (omega (arith, s.long, s.fits, n, m))))
            ∙ i refl k;
        after-whole = ap whole (drop-drop (size_of l) at (take end c)) ∙ w;
      })
  over false e i w = let z : at + 0 ≡ at = omega arith in rw z at w

  -- one of a type
  box-over : (kind : ℕ)
      → let b = box_at c at end kind in
      (container kind ≡ true → Whole c (b.at + 8) (end_of b)) → Whole c (end_of b) end → Whole c at end
  unfolding box_at
  box-over kind i w =
      over (sized (list_at c at end) and eqb (kind_of (list_at c at end)) kind) (λ e. left _ _ e)
      (λ e k. i (ap container (sym (eqb-true _ _ (right _ _ e))) ∙ k)) w

  -- one of a type that is no container
  leaf-over : (kind : ℕ) → container kind ≡ false → Whole c (end_of (box_at c at end kind)) end → Whole c at end
  leaf-over kind k w = box-over kind (leaf kind _ k) w

  -- any other
  any-over : container (any_at c at end).kind ≡ false → Whole c ((any_at c at end).at + (any_at c at end).len) end → Whole c at end
  unfolding any_at
  any-over k w =
      over (sized (list_at c at end)) (λ e. e)
      (λ e. leaf _ _ (ap (λ (t : Bool). container (cond t (kind_of (list_at c at end)) 0)) (sym e) ∙ k)) w

-- ---- the boxes of a chunk

-- what stands in a box after its head
body-whole : (c : List ℕ) (p : Part) → 8 ≤ p.len → Whole c (body_of p).at (end_of (body_of p)) → Whole c (p.at + 8) (end_of p)
body-whole c p h w = let b = body-in p in sym (λ i. whole (list_at c (b.past_head h i) (b.same_end h i))) ∙ w

-- the three boxes after the `trun`, which are the ones that are looked for
last-whole : (c : List ℕ) (at end : ℕ)
    → let l = last_of c at end in
    (l.senc.len ≡ 0 → ⊥) → (l.saiz.len ≡ 0 → ⊥) → (l.saio.len ≡ 0 → ⊥) → l.end ≡ end → Whole c at end
unfolding last_of
last-whole c at end x y z e =
    let a : Any = any_at c at end in
    let b : Any = any_at c (a.at + a.len) end in
    let d : Any = any_at c (b.at + b.len) end in
    let k = (one_each a b d (pick-len kinds.senc a b d x) (pick-len kinds.saiz a b d y) (pick-len kinds.saio a b d z)).1 in
    any-over c at end k.0 (any-over c (a.at + a.len) end k.1.0 (any-over c (b.at + b.len) end k.1.1 (none c e)))

-- those inside the `moof`
moof-whole : (c : List ℕ) (moof : Part) → 8 ≤ moof.len → inner_ok moof (inner_of c moof) ≡ true → Whole c (moof.at + 8) (end_of moof)
unfolding inner_of traf_of container
moof-whole c moof n e =
    let s : InnerSays moof (inner_of c moof) = inner-says moof (inner_of c moof) e in
    let g = (inner-eights c moof e).traf-eight in
    let end : ℕ = end_of (body_of moof) in
    let m : Part = box_at c (body_of moof).at end kinds.mfhd in
    let t : Part = box_at c (end_of m) end kinds.traf in
    let x : ℕ = end_of (body_of t) in
    let h : Part = box_at c (body_of t).at x kinds.tfhd in
    let d : Part = box_at c (end_of h) x kinds.tfdt in
    let r : Part = box_at c (end_of d) x kinds.trun in
    let q : x ≡ end_of t = (body-in t).same_end g in
    let last : (end_of r ≡ end_of t) ⊎ Three (inner_of c moof) → Whole c (end_of r) x =
    elim [
      | inl z ↦ none c (z ∙ sym q)
      | inr z ↦ last-whole c (end_of r) x z.senc-stands z.saiz-stands z.saio-stands (z.ends ∙ sym q)
    ] in
    body-whole c moof n
    (leaf-over c (body_of moof).at end kinds.mfhd refl
    (box-over c (end_of m) end kinds.traf
    (λ k.
    body-whole c t g
    (leaf-over c (body_of t).at x kinds.tfhd refl
    (leaf-over c (end_of h) x kinds.tfdt refl (leaf-over c (end_of d) x kinds.trun refl (last s.three-or-none)))))
    (none c (s.traf-ends ∙ sym ((body-in moof).same_end n)))))

-- a run of `emsg` boxes
run-whole : (l : List ℕ) → whole (drop (emsgs l).end l) ≡ true → whole l ≡ true
unfolding container after_of
run-whole = by-shorter (λ l. whole (drop (emsgs l).end l) ≡ true → whole l ≡ true) step
  where
    step : (l : List ℕ) → ((m : List ℕ) → length m < length l → whole (drop (emsgs m).end m) ≡ true → whole m ≡ true)
        → whole (drop (emsgs l).end l) ≡ true → whole l ≡ true
    step l ih w = by (leads l) refl
      where
        by : (t : Bool) → leads l ≡ t → whole l ≡ true
        by true e =
            let s : Sized l = sized-says l (left _ _ e) in
            let k : kind_of l ≡ kinds.emsg = eqb-true _ _ (right _ _ e) in
            first-whole l
            (record {
              is-sized = s;
              inside-whole = leaf (kind_of l) _ (ap container k);
              after-whole =
                  ih (after_of l) (after_less l s)
                  (ap whole (drop-drop (emsgs (after_of l)).end (size_of l) l) ∙ ap (λ (r : Row). whole (drop r.end l)) (sym (emsgs-more l e)) ∙ w);
            })
        by false e = ap (λ (r : Row). whole (drop r.end l)) (sym (emsgs-none l e)) ∙ w

-- all of them
pub shaped-whole : (c : List ℕ) → (top_ok c (top_of c) && inner_ok (top_of c).moof (inner_of c (top_of c).moof)) ≡ true → whole c ≡ true
unfolding top_of emsgs_from container
shaped-whole c e =
    let o = both_of (top_ok c (top_of c)) (inner_ok (top_of c).moof (inner_of c (top_of c).moof)) e in
    let n : ℕ = length c in
    let s : Part = box_at c 0 n kinds.styp in
    let p : Part = box_at c (end_of s) n kinds.prft in
    let r : Row = emsgs_from c (end_of p) in
    let m : Part = box_at c r.end n kinds.moof in
    let run : Whole c r.end n → Whole c (end_of p) n =
    λ w.
    ap whole (slice-to-end (end_of p) n c refl)
    ∙ run-whole (drop (end_of p) c)
    (ap whole (drop-drop (emsgs (drop (end_of p) c)).end (end_of p) c ∙ sym (slice-to-end r.end n c refl)) ∙ w) in
    ap whole (sym (slice-to-end 0 n c refl))
    ∙ leaf-over c 0 n kinds.styp refl
    (leaf-over c (end_of s) n kinds.prft refl
    (run
    (box-over c r.end n kinds.moof (λ k. moof-whole c m (top-eights c o.0).0 o.1)
    (leaf-over c (end_of m) n kinds.mdat refl (none c (top-says c (top_of c) o.0).ends)))))
