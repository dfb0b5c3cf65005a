-- Boxes where they are looked for: they lie in the list, have a head, and the type. Assumes nothing.
use Prim.Native.Nat.{ℕ, ◌+◌, ◌-◌, ◌≤◌, ◌<◌}
use native.Mathlib.Omega.{arith}
use mathlib.Core.Path.{◌≡◌, refl, sym, ◌∙◌, ap, ap₂}
use mathlib.Core.Bool.{Bool, true, false, cond}
use mathlib.Core.List.{List}
use mathlib.Core.Logic.{◌⊎◌, inl, inr}
use borrow.Author.Tests.{ltb-true, ltb-false, lt-ltb, le-ltb, eq-eqb, ne_eqb, eqb-true}
use lib.Dec.{eqb, ltb}
use lib.ListN.{length, take, length-drop}
use lib.Seq.{length-take-le}
use Rattle.laws.specs.Tests.{◌and◌}
use Rattle.laws.proofs.TestLaws.{left, right, both, and-true, and-false}
use Rattle.cmaf_read_tree.specs.Whole.{size_of, kind_of, sized}
use Rattle.cmaf_read_tree.proofs.WholeLaws.{Sized, sized-says, sized-is}
use Rattle.cmaf_read_tree.proofs.HeadLaws.{HeadAt}
use Rattle.byte_parts.specs.declared.Part.{Part}
use Rattle.cmaf_read_shape.specs.declared.parts.Any.{Any}
use Rattle.cmaf_read_shape.specs.Parts.{part, end_of, body_of, list_at, any_at, box_at, Inside}

-- ---- what stands in a box after its head

pub body-short : (p : Part) → p.len < 8 → part p.at 0 ≡ body_of p
unfolding body_of
body-short p h = ap (λ (t : Bool). cond t (part p.at 0) (part (p.at + 8) (p.len - 8))) (sym (lt-ltb _ _ h))

pub body-long : (p : Part) → 8 ≤ p.len → part (p.at + 8) (p.len - 8) ≡ body_of p
unfolding body_of
body-long p h = ap (λ (t : Bool). cond t (part p.at 0) (part (p.at + 8) (p.len - 8))) (sym (le-ltb _ _ h))

-- it lies in the box, and ends with it if the box has a head
pub record Body (p : Part) : Type 0 where
  pub starts : p.at ≤ (body_of p).at
  pub ends : end_of (body_of p) ≤ end_of p
  pub past_head : 8 ≤ p.len → (body_of p).at ≡ p.at + 8
  pub same_end : 8 ≤ p.len → end_of (body_of p) ≡ end_of p

pub body-in : (p : Part) → Body p
body-in p = by (ltb p.len 8) refl
  where
    by : (t : Bool) → ltb p.len 8 ≡ t → Body p
    by true e =
        let q : part p.at 0 ≡ body_of p = body-short p (ltb-true _ _ e) in
        let a : p.at ≡ (body_of p).at = ap (λ (b : Part). b.at) q in
        let n : 0 ≡ (body_of p).len = ap (λ (b : Part). b.len) q in
        let l : p.len < 8 = ltb-true _ _ e in
        record { starts = omega arith; ends = omega arith; past_head = λ h. absurd (omega arith); same_end = λ h. absurd (omega arith) }
    by false e =
        let l : 8 ≤ p.len = ltb-false _ _ e in
        let q : part (p.at + 8) (p.len - 8) ≡ body_of p = body-long p l in
        let a : p.at + 8 ≡ (body_of p).at = ap (λ (b : Part). b.at) q in
        let n : p.len - 8 ≡ (body_of p).len = ap (λ (b : Part). b.len) q in
        record { starts = omega arith; ends = omega arith; past_head = λ h. omega arith; same_end = λ h. omega arith }

-- ---- the code's ways out

abbrev any : ℕ → ℕ → ℕ → Any
any kind at len = record { kind = kind; at = at; len = len }

module _ (c : List ℕ) (at end : ℕ) where
  any-is : (t : Bool) → sized (list_at c at end) ≡ t
      → record { kind = cond t (kind_of (list_at c at end)) 0; at = at; len = cond t (size_of (list_at c at end)) 0 } ≡ any_at c at end
  unfolding any_at
  any-is t e = ap (λ (u : Bool). record { kind = cond u (kind_of (list_at c at end)) 0; at = at; len = cond u (size_of (list_at c at end)) 0 }) (sym e)

  pub any-broken : sized (list_at c at end) ≡ false → record { kind = 0; at = at; len = 0 } ≡ any_at c at end
  any-broken e = any-is false e

  pub any-stands : {n k : ℕ} → HeadAt (take end c) at n k → record { kind = k; at = at; len = n } ≡ any_at c at end
  any-stands {n} {k} h = ap₂ (λ (x y : ℕ). any x at y) h.kind h.size ∙ any-is true (sized-is _ h.is-sized)

  -- a box of any type was looked at: it has the type
  module _ (kind : ℕ) {b : Any} (e : b ≡ any_at c at end) where
    box-is : (t : Bool) → (sized (list_at c at end) and eqb (kind_of (list_at c at end)) kind) ≡ t
        → part at (cond t (size_of (list_at c at end)) 0) ≡ box_at c at end kind
    unfolding box_at
    box-is t z = ap (λ (u : Bool). part at (cond u (size_of (list_at c at end)) 0)) (sym z)

    kind-is : (t : Bool) → sized (list_at c at end) ≡ t → b.kind ≡ cond t (kind_of (list_at c at end)) 0
    kind-is t z = ap (λ (x : Any). x.kind) (e ∙ sym (any-is t z))

    len_is : (t : Bool) → sized (list_at c at end) ≡ t → b.len ≡ cond t (size_of (list_at c at end)) 0
    len_is t z = ap (λ (x : Any). x.len) (e ∙ sym (any-is t z))

    pub box-has : 0 < kind → b.kind ≡ kind → part at b.len ≡ box_at c at end kind
    box-has h k = by (sized (list_at c at end)) refl
      where
        by : (t : Bool) → sized (list_at c at end) ≡ t → part at b.len ≡ box_at c at end kind
        by true z =
            ap (part at) (len_is true z) ∙ box-is true (both _ _ z (eq-eqb _ _ (sym (kind-is true z) ∙ k)))
        by false z = let q : b.kind ≡ 0 = kind-is false z in absurd (omega arith)

    -- or another one
    pub box-other : (b.kind ≡ kind → ⊥) → part at 0 ≡ box_at c at end kind
    box-other k = by (sized (list_at c at end)) refl
      where
        by : (t : Bool) → sized (list_at c at end) ≡ t → part at 0 ≡ box_at c at end kind
        by true z = box-is false (and-true _ z ∙ ne_eqb _ _ (λ q. k (kind-is true z ∙ q)))
        by false z = box-is false (and-false _ z)

-- ---- what is found

-- where a first box is found, it lies in the list; of no bytes where none is
record Found (c : List ℕ) (at end len : ℕ) : Type 0 where
  inside : at ≤ end → end ≤ length c → at + len ≤ end
  eight : (len ≡ 0) ⊎ (8 ≤ len)

found : (c : List ℕ) (at end : ℕ) (t : Bool) → (t ≡ true → sized (list_at c at end) ≡ true) → Found c at end (cond t (size_of (list_at c at end)) 0)
found c at end true e =
    let s : Sized (list_at c at end) = sized-says _ (e refl) in
    let n : length (list_at c at end) ≡ length (take end c) - at = length-drop at (take end c) in
    record { inside = λ l h. omega (arith, s.fits, length-take-le end c h); eight = inr s.eight }
found c at end false e = record { inside = λ l h. omega arith; eight = inl refl }

module _ (c : List ℕ) (at end : ℕ) where
  pub any_place : (any_at c at end).at ≡ at
  unfolding any_at
  any_place = refl

  pub any-inside : at ≤ end → end ≤ length c → (any_at c at end).at + (any_at c at end).len ≤ end
  unfolding any_at
  any-inside = (found c at end (sized (list_at c at end)) (λ e. e)).inside

  pub any-eight : ((any_at c at end).len ≡ 0) ⊎ (8 ≤ (any_at c at end).len)
  unfolding any_at
  any-eight = (found c at end (sized (list_at c at end)) (λ e. e)).eight

  module _ (kind : ℕ) where
    pub box-place : (box_at c at end kind).at ≡ at
    unfolding box_at
    box-place = refl

    pub box-inside : at ≤ end → end ≤ length c → end_of (box_at c at end kind) ≤ end
    unfolding box_at
    box-inside = (found c at end (sized (list_at c at end) and eqb (kind_of (list_at c at end)) kind) (λ e. left _ _ e)).inside

    pub box-eight : ((box_at c at end kind).len ≡ 0) ⊎ (8 ≤ (box_at c at end kind).len)
    unfolding box_at
    box-eight = (found c at end (sized (list_at c at end) and eqb (kind_of (list_at c at end)) kind) (λ e. left _ _ e)).eight

    pub box-lies : at ≤ end → end ≤ length c → Inside c (box_at c at end kind)
    box-lies l h = record { within = omega (arith, box-inside l h) }

    -- a box that is found stands in the list, and has the type
    pub box-test : ((box_at c at end kind).len ≡ 0 → ⊥) → (sized (list_at c at end) and eqb (kind_of (list_at c at end)) kind) ≡ true
    unfolding box_at
    box-test = by (sized (list_at c at end) and eqb (kind_of (list_at c at end)) kind)
      where
        by : (t : Bool) → (cond t (size_of (list_at c at end)) 0 ≡ 0 → ⊥) → t ≡ true
        by true h = refl
        by false h = absurd (h refl)

    -- one that isn't found: no box stands there, or one of another type
    pub box-none : (box_at c at end kind).len ≡ 0 → (sized (list_at c at end) and eqb (kind_of (list_at c at end)) kind) ≡ false
    unfolding box_at
    box-none h = by (sized (list_at c at end) and eqb (kind_of (list_at c at end)) kind) refl h
      where
        by : (t : Bool) → (sized (list_at c at end) and eqb (kind_of (list_at c at end)) kind) ≡ t → cond t (size_of (list_at c at end)) 0 ≡ 0 → t ≡ false
        by true e z = let s : Sized (list_at c at end) = sized-says _ (left _ _ e) in absurd (omega (arith, s.eight))
        by false e z = refl

    pub box-sized : ((box_at c at end kind).len ≡ 0 → ⊥) → Sized (list_at c at end)
    box-sized h = sized-says _ (left _ _ (box-test h))

    pub box-kind : ((box_at c at end kind).len ≡ 0 → ⊥) → kind_of (list_at c at end) ≡ kind
    box-kind h = eqb-true _ _ (right _ _ (box-test h))

    pub box-size : ((box_at c at end kind).len ≡ 0 → ⊥) → (box_at c at end kind).len ≡ size_of (list_at c at end)
    unfolding box_at
    box-size h = ap (λ (t : Bool). cond t (size_of (list_at c at end)) 0) (box-test h)

-- ---- with the places that the code has computed

module _ (c : List ℕ) {at end : ℕ} (l : at ≤ end) (h : end ≤ length c) where
  pub any-lies : {b : Any} → b ≡ any_at c at end → b.at + b.len ≤ end
  any-lies {b} e =
      let a : b.at ≡ (any_at c at end).at = ap (λ (x : Any). x.at) e in
      let n : b.len ≡ (any_at c at end).len = ap (λ (x : Any). x.len) e in
      omega (arith, any-inside c at end l h)

  pub box-ends : (kind : ℕ) {p : Part} → p ≡ box_at c at end kind → end_of p ≤ end
  box-ends kind {p} e =
      let a : p.at ≡ (box_at c at end kind).at = ap (λ (x : Part). x.at) e in
      let n : p.len ≡ (box_at c at end kind).len = ap (λ (x : Part). x.len) e in
      omega (arith, box-inside c at end kind l h)

-- the box after another one
pub after_is : (c : List ℕ) (p : Part) (end kind : ℕ) {x : ℕ} {r : Part} → end_of p ≤ end → end ≤ length c → x ≡ end_of p → r ≡ box_at c x end kind
    → (r ≡ box_at c (end_of p) end kind) × (end_of r ≤ end)
after_is c p end kind l h e f =
    let g = f ∙ ap (λ (y : ℕ). box_at c y end kind) e in
    (g, box-ends c l h kind g)

-- what stands in a box, and the first box in it
module _ (p : Part) {list : Part} (e : list ≡ body_of p) where
  pub list-ends : end_of list ≤ end_of p
  list-ends =
      let a : list.at ≡ (body_of p).at = ap (λ (x : Part). x.at) e in
      let n : list.len ≡ (body_of p).len = ap (λ (x : Part). x.len) e in
      omega (arith, (body-in p).ends)

  pub end_is : {x : ℕ} → x ≡ end_of list → (x ≡ end_of (body_of p)) × (x ≤ end_of p)
  end_is f = (f ∙ ap end_of e, omega (arith, list-ends))

  pub first-is : (c : List ℕ) (kind : ℕ) {x : ℕ} {r : Part} → end_of p ≤ length c → x ≡ end_of list → r ≡ box_at c list.at x kind
      → (r ≡ box_at c (body_of p).at (end_of (body_of p)) kind) × (end_of r ≤ end_of (body_of p))
  first-is c kind h f g =
      let q = g ∙ (λ i. box_at c (e i).at ((f ∙ ap end_of e) i) kind) in
      (q, box-ends c (omega arith) (omega (arith, (body-in p).ends)) kind q)

-- a box that was found and has bytes has a head
pub found-eight : (c : List ℕ) (at end kind : ℕ) {p : Part} → p ≡ box_at c at end kind → (p.len ≡ 0 → ⊥) → 8 ≤ p.len
found-eight c at end kind {p} e s =
    let n : p.len ≡ (box_at c at end kind).len = ap (λ (x : Part). x.len) e in
    let z = box-sized c at end kind (λ q. s (n ∙ q)) in
    omega (arith, n, z.eight, box-size c at end kind (λ q. s (n ∙ q)))
