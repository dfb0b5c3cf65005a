-- The boxes inside the `moof` lie in the chunk. Assumes nothing.
use Prim.Native.Nat.{ℕ, ◌+◌, ◌≤◌, ◌<◌}
use native.Mathlib.Omega.{arith}
use mathlib.Core.Path.{◌≡◌, refl, sym, ◌∙◌, ap}
use mathlib.Core.Bool.{Bool, true, false, cond, not, ◌&&◌, ◌||◌}
use mathlib.Core.List.{List}
use mathlib.Core.Logic.{◌⊎◌, inl, inr}
use borrow.Author.Tests.{eqb-true, eqb-false, not-true, eq-eqb, ne_eqb}
use lib.Dec.{eqb}
use lib.ListN.{length}
use Rattle.laws.proofs.TestLaws.{both_of}
use Rattle.boxes.specs.Box as kinds
use Rattle.cmaf_read_tree.specs.Whole.{container}
use Rattle.byte_parts.specs.declared.Part.{Part}
use Rattle.cmaf_read_shape.specs.declared.parts.Any.{Any}
use Rattle.cmaf_read_shape.specs.declared.inner.Inner.{Inner}
use Rattle.cmaf_read_shape.specs.declared.inner.Last.{Last}
use Rattle.cmaf_read_shape.specs.Parts.{part, end_of, body_of, any_at, box_at, Inside}
use Rattle.cmaf_read_shape.specs.Inner.{pick_of, last_of, traf_of, inner_of, three_or_none, inner_ok}
use Rattle.cmaf_read_shape.proofs.PartLaws.{body-in, any_place, any-inside, any-eight, box-has, box-place, box-inside, found-eight}

-- ---- the one of three boxes that has the type

module _ (kind : ℕ) (a b d : Any) where
  pub pick_first : a.kind ≡ kind → part a.at a.len ≡ pick_of kind a b d
  unfolding pick_of
  pick_first e = simp (eq-eqb _ _ e)

  pub pick_second : (a.kind ≡ kind → ⊥) → b.kind ≡ kind → part b.at b.len ≡ pick_of kind a b d
  unfolding pick_of
  pick_second x e = simp (ne_eqb _ _ x, eq-eqb _ _ e)

  pub pick-third : (a.kind ≡ kind → ⊥) → (b.kind ≡ kind → ⊥) → d.kind ≡ kind → part d.at d.len ≡ pick_of kind a b d
  unfolding pick_of
  pick-third x y e = simp (ne_eqb _ _ x, ne_eqb _ _ y, eq-eqb _ _ e)

  pub pick-none : (a.kind ≡ kind → ⊥) → (b.kind ≡ kind → ⊥) → (d.kind ≡ kind → ⊥) → part a.at 0 ≡ pick_of kind a b d
  unfolding pick_of
  pick-none x y z = simp (ne_eqb _ _ x, ne_eqb _ _ y, ne_eqb _ _ z)

-- ---- the tests, with the ends that the code has computed

abbrev stands : Part → Bool
stands p = not (eqb p.len 0)

module _ (f : Inner) where
  pub three-is : {x y z : ℕ} → x ≡ end_of f.trun → y ≡ end_of f.traf → z ≡ end_of f.traf
      → (eqb x y || ((stands f.senc && (stands f.saiz && stands f.saio)) && eqb f.end z)) ≡ three_or_none f
  unfolding three_or_none
  three-is p q r = λ i. eqb (p i) (q i) || ((stands f.senc && (stands f.saiz && stands f.saio)) && eqb f.end (r i))

  pub inner-is : (moof : Part) {x y : ℕ} {t : Bool} → x ≡ end_of f.traf → y ≡ end_of moof → t ≡ three_or_none f
      → ((stands f.mfhd && (stands f.traf && (stands f.tfhd && (stands f.tfdt && stands f.trun)))) && (eqb x y && t))
      ≡ inner_ok moof f
  unfolding inner_ok
  inner-is moof p q r =
      λ i.
      (stands f.mfhd && (stands f.traf && (stands f.tfhd && (stands f.tfdt && stands f.trun)))) && (eqb (p i) (q i) && r i)

-- ---- the boxes, by the places that the code has computed

pub last-is : (c : List ℕ) (at end : ℕ) {a b d : Any} {s z o : Part}
    → a ≡ any_at c at end → b ≡ any_at c (a.at + a.len) end → d ≡ any_at c (b.at + b.len) end
    → s ≡ pick_of kinds.senc a b d → z ≡ pick_of kinds.saiz a b d → o ≡ pick_of kinds.saio a b d
    → record { senc = s; saiz = z; saio = o; end = d.at + d.len } ≡ last_of c at end
unfolding last_of
last-is c at end {a} {b} {d} {s} {z} {o} ea eb ed es ez eo =
    let q = eb ∙ ap (λ (x : Any). any_at c (x.at + x.len) end) ea in
    let r = ed ∙ ap (λ (x : Any). any_at c (x.at + x.len) end) q in
    let x = es ∙ (λ i. pick_of kinds.senc (ea i) (q i) (r i)) in
    let y = ez ∙ (λ i. pick_of kinds.saiz (ea i) (q i) (r i)) in
    let w = eo ∙ (λ i. pick_of kinds.saio (ea i) (q i) (r i)) in
    λ i. record { senc = x i; saiz = y i; saio = w i; end = (r i).at + (r i).len }

pub traf-is : (c : List ℕ) (mfhd traf : Part) {end x : ℕ} {tfhd tfdt trun : Part} {last : Last}
    → end ≡ end_of (body_of traf)
    → tfhd ≡ box_at c (body_of traf).at (end_of (body_of traf)) kinds.tfhd
    → tfdt ≡ box_at c (end_of tfhd) end kinds.tfdt
    → trun ≡ box_at c (end_of tfdt) end kinds.trun
    → x ≡ end_of trun
    → last ≡ last_of c x end
    → record {
      mfhd = mfhd;
      traf = traf;
      tfhd = tfhd;
      tfdt = tfdt;
      trun = trun;
      senc = last.senc;
      saiz = last.saiz;
      saio = last.saio;
      end = last.end;
    } ≡ traf_of c mfhd traf
unfolding traf_of
traf-is c mfhd traf e h d t x l =
    let d' = d ∙ (λ i. box_at c (end_of (h i)) (e i) kinds.tfdt) in
    let t' = t ∙ (λ i. box_at c (end_of (d' i)) (e i) kinds.trun) in
    let l' = l ∙ (λ i. last_of c ((x ∙ ap end_of t') i) (e i)) in
    λ i.
    record {
      mfhd = mfhd;
      traf = traf;
      tfhd = h i;
      tfdt = d' i;
      trun = t' i;
      senc = (l' i).senc;
      saiz = (l' i).saiz;
      saio = (l' i).saio;
      end = (l' i).end;
    }

pub moof-is : (c : List ℕ) (moof : Part) {end : ℕ} {mfhd traf : Part} {f : Inner}
    → end ≡ end_of (body_of moof)
    → mfhd ≡ box_at c (body_of moof).at (end_of (body_of moof)) kinds.mfhd
    → traf ≡ box_at c (end_of mfhd) end kinds.traf
    → f ≡ traf_of c mfhd traf
    → f ≡ inner_of c moof
unfolding inner_of
moof-is c moof e m t f =
    let t' = t ∙ (λ i. box_at c (end_of (m i)) (e i) kinds.traf) in
    f ∙ (λ i. traf_of c (m i) (t' i))

-- ---- where they lie

-- of three boxes and none, the one that is picked
pick-one : (P : Part → Type 0) (kind : ℕ) (a b d : Any) → (a.kind ≡ kind → P (part a.at a.len)) → (b.kind ≡ kind → P (part b.at b.len))
    → (d.kind ≡ kind → P (part d.at d.len)) → P (part a.at 0) → P (pick_of kind a b d)
unfolding pick_of
pick-one P kind a b d pa pb pd pz = by (eqb a.kind kind) refl (eqb b.kind kind) refl (eqb d.kind kind) refl
  where
    by : (x : Bool) → eqb a.kind kind ≡ x → (y : Bool) → eqb b.kind kind ≡ y → (z : Bool) → eqb d.kind kind ≡ z
        → P (cond x (part a.at a.len) (cond y (part b.at b.len) (cond z (part d.at d.len) (part a.at 0))))
    by true e y f z g = pa (eqb-true _ _ e)
    by false e true f z g = pb (eqb-true _ _ f)
    by false e false f true g = pd (eqb-true _ _ g)
    by false e false f false g = pz

-- a part between two places, of no bytes or with a head
pub record Between (from to : ℕ) (p : Part) : Type 0 where
  pub after : from ≤ p.at
  pub before : end_of p ≤ to
  pub eight : (p.len ≡ 0 → ⊥) → 8 ≤ p.len

pub record LastIn (at end : ℕ) (l : Last) : Type 0 where
  pub senc-in : Between at l.end l.senc
  pub saiz-in : Between at l.end l.saiz
  pub saio-in : Between at l.end l.saio
  pub end-in : l.end ≤ end

pub last-in : (c : List ℕ) (at end : ℕ) → at ≤ end → end ≤ length c → LastIn at end (last_of c at end)
unfolding last_of
last-in c at end l h =
    let a : Any = any_at c at end in
    let b : Any = any_at c (a.at + a.len) end in
    let d : Any = any_at c (b.at + b.len) end in
    let ha : a.at + a.len ≤ end = any-inside c at end l h in
    let hb : b.at + b.len ≤ end = any-inside c (a.at + a.len) end ha h in
    let hd : d.at + d.len ≤ end = any-inside c (b.at + b.len) end hb h in
    let pa : a.at ≡ at = any_place c at end in
    let pb : b.at ≡ a.at + a.len = any_place c (a.at + a.len) end in
    let pd : d.at ≡ b.at + b.len = any_place c (b.at + b.len) end in
    let P : Part → Type 0 = Between at (d.at + d.len) in
    let ia : P (part a.at a.len) = record { after = omega arith; before = omega arith; eight = or-eight _ (any-eight c at end) } in
    let ib : P (part b.at b.len) =
    record { after = omega arith; before = omega arith; eight = or-eight _ (any-eight c (a.at + a.len) end) } in
    let id : P (part d.at d.len) =
    record { after = omega arith; before = omega arith; eight = or-eight _ (any-eight c (b.at + b.len) end) } in
    let iz : P (part a.at 0) = record { after = omega arith; before = omega arith; eight = λ z. absurd (z refl) } in
    record {
      senc-in = pick-one P kinds.senc a b d (λ e. ia) (λ e. ib) (λ e. id) iz;
      saiz-in = pick-one P kinds.saiz a b d (λ e. ia) (λ e. ib) (λ e. id) iz;
      saio-in = pick-one P kinds.saio a b d (λ e. ia) (λ e. ib) (λ e. id) iz;
      end-in = hd;
    }
  where
    or-eight : (n : ℕ) → (n ≡ 0) ⊎ (8 ≤ n) → (n ≡ 0 → ⊥) → 8 ≤ n
    or-eight n (inl e) z = absurd (z e)
    or-eight n (inr e) z = e

-- one after another inside the `moof`, and inside the `traf`
pub record InnerIn (c : List ℕ) (moof : Part) (f : Inner) : Type 0 where
  pub mfhd-at : f.mfhd.at ≡ (body_of moof).at
  pub traf-at : f.traf.at ≡ end_of f.mfhd
  pub traf-in : end_of f.traf ≤ end_of moof
  pub tfhd-at : f.tfhd.at ≡ (body_of f.traf).at
  pub tfdt-at : f.tfdt.at ≡ end_of f.tfhd
  pub trun-at : f.trun.at ≡ end_of f.tfdt
  pub trun-in : end_of f.trun ≤ end_of f.traf
  pub senc-in : Between (end_of f.trun) f.end f.senc
  pub saiz-in : Between (end_of f.trun) f.end f.saiz
  pub saio-in : Between (end_of f.trun) f.end f.saio
  pub end-in : f.end ≤ end_of f.traf

pub inner-in : (c : List ℕ) (moof : Part) → Inside c moof → InnerIn c moof (inner_of c moof)
unfolding inner_of traf_of
inner-in c moof i =
    let m : Part = box_at c (body_of moof).at (end_of (body_of moof)) kinds.mfhd in
    let t : Part = box_at c (end_of m) (end_of (body_of moof)) kinds.traf in
    let e : ℕ = end_of (body_of t) in
    let h : Part = box_at c (body_of t).at e kinds.tfhd in
    let d : Part = box_at c (end_of h) e kinds.tfdt in
    let r : Part = box_at c (end_of d) e kinds.trun in
    let lb : end_of (body_of moof) ≤ end_of moof = (body-in moof).ends in
    let lc : end_of (body_of moof) ≤ length c = omega (arith, i.within) in
    let lm : end_of m ≤ end_of (body_of moof) = box-inside c (body_of moof).at (end_of (body_of moof)) kinds.mfhd (omega arith) lc in
    let lt : end_of t ≤ end_of (body_of moof) = box-inside c (end_of m) (end_of (body_of moof)) kinds.traf lm lc in
    let le : e ≤ end_of t = (body-in t).ends in
    let ec : e ≤ length c = omega arith in
    let lh : end_of h ≤ e = box-inside c (body_of t).at e kinds.tfhd (omega arith) ec in
    let ld : end_of d ≤ e = box-inside c (end_of h) e kinds.tfdt lh ec in
    let lr : end_of r ≤ e = box-inside c (end_of d) e kinds.trun ld ec in
    let l : LastIn (end_of r) e (last_of c (end_of r) e) = last-in c (end_of r) e lr ec in
    record {
      mfhd-at = box-place c (body_of moof).at (end_of (body_of moof)) kinds.mfhd;
      traf-at = box-place c (end_of m) (end_of (body_of moof)) kinds.traf;
      traf-in = omega arith;
      tfhd-at = box-place c (body_of t).at e kinds.tfhd;
      tfdt-at = box-place c (end_of h) e kinds.tfdt;
      trun-at = box-place c (end_of d) e kinds.trun;
      trun-in = omega arith;
      senc-in = l.senc-in;
      saiz-in = l.saiz-in;
      saio-in = l.saio-in;
      end-in = omega (arith, l.end-in);
    }

-- all lie in the chunk
module _ {c : List ℕ} {moof : Part} {f : Inner} (i : Inside c moof) (h : InnerIn c moof f) where
  pub traf-inside : Inside c f.traf
  traf-inside = record { within = omega (arith, i.within, h.traf-in) }

  pub mfhd-inside : Inside c f.mfhd
  mfhd-inside = record { within = omega (arith, traf-inside.within, h.traf-at) }

  pub trun-inside : Inside c f.trun
  trun-inside = record { within = omega (arith, traf-inside.within, h.trun-in) }

  pub tfdt-inside : Inside c f.tfdt
  tfdt-inside = record { within = omega (arith, trun-inside.within, h.trun-at) }

  pub tfhd-inside : Inside c f.tfhd
  tfhd-inside = record { within = omega (arith, tfdt-inside.within, h.tfdt-at) }

  pub senc-inside : Inside c f.senc
  senc-inside = record { within = omega (arith, traf-inside.within, h.end-in, h.senc-in.before) }

  pub saiz-inside : Inside c f.saiz
  saiz-inside = record { within = omega (arith, traf-inside.within, h.end-in, h.saiz-in.before) }

  pub saio-inside : Inside c f.saio
  saio-inside = record { within = omega (arith, traf-inside.within, h.end-in, h.saio-in.before) }

-- ---- which boxes they are

-- a part is the box of the type that is found at its place
abbrev pub FoundAs : List ℕ → ℕ → ℕ → Part → Type 0
FoundAs c end kind p = p ≡ box_at c p.at end kind

box-found : (c : List ℕ) (at end kind : ℕ) → FoundAs c end kind (box_at c at end kind)
box-found c at end kind = ap (λ (x : ℕ). box_at c x end kind) (sym (box-place c at end kind))

any_found : (c : List ℕ) (at end kind : ℕ) → 0 < kind → (any_at c at end).kind ≡ kind
    → FoundAs c end kind (part (any_at c at end).at (any_at c at end).len)
any_found c at end kind h e =
    let q : (any_at c at end).at ≡ at = any_place c at end in
    ap (λ (x : ℕ). part x (any_at c at end).len) q ∙ box-has c at end kind refl h e ∙ ap (λ (x : ℕ). box_at c x end kind) (sym q)

pub last_found : (c : List ℕ) (at end kind : ℕ) → 0 < kind
    → let a = any_at c at end in
    let b = any_at c (a.at + a.len) end in
    let d = any_at c (b.at + b.len) end in
    ((pick_of kind a b d).len ≡ 0 → ⊥) → FoundAs c end kind (pick_of kind a b d)
last_found c at end kind h =
    let a : Any = any_at c at end in
    let b : Any = any_at c (a.at + a.len) end in
    let d : Any = any_at c (b.at + b.len) end in
    let P : Part → Type 0 = λ p. (p.len ≡ 0 → ⊥) → FoundAs c end kind p in
    pick-one P kind a b d (λ e s. any_found c at end kind h e) (λ e s. any_found c (a.at + a.len) end kind h e)
    (λ e s. any_found c (b.at + b.len) end kind h e) (λ s. absurd (s refl))

pub record InnerFound (c : List ℕ) (moof : Part) (f : Inner) : Type 0 where
  pub mfhd-found : FoundAs c (end_of (body_of moof)) kinds.mfhd f.mfhd
  pub traf-found : FoundAs c (end_of (body_of moof)) kinds.traf f.traf
  pub tfhd-found : FoundAs c (end_of (body_of f.traf)) kinds.tfhd f.tfhd
  pub tfdt-found : FoundAs c (end_of (body_of f.traf)) kinds.tfdt f.tfdt
  pub trun-found : FoundAs c (end_of (body_of f.traf)) kinds.trun f.trun
  pub senc-found : (f.senc.len ≡ 0 → ⊥) → FoundAs c (end_of (body_of f.traf)) kinds.senc f.senc
  pub saiz-found : (f.saiz.len ≡ 0 → ⊥) → FoundAs c (end_of (body_of f.traf)) kinds.saiz f.saiz
  pub saio-found : (f.saio.len ≡ 0 → ⊥) → FoundAs c (end_of (body_of f.traf)) kinds.saio f.saio

pub inner-found : (c : List ℕ) (moof : Part) → InnerFound c moof (inner_of c moof)
unfolding inner_of traf_of last_of
inner-found c moof =
    let m : Part = box_at c (body_of moof).at (end_of (body_of moof)) kinds.mfhd in
    let t : Part = box_at c (end_of m) (end_of (body_of moof)) kinds.traf in
    let e : ℕ = end_of (body_of t) in
    let h : Part = box_at c (body_of t).at e kinds.tfhd in
    let d : Part = box_at c (end_of h) e kinds.tfdt in
    let r : Part = box_at c (end_of d) e kinds.trun in
    record {
      mfhd-found = box-found c (body_of moof).at (end_of (body_of moof)) kinds.mfhd;
      traf-found = box-found c (end_of m) (end_of (body_of moof)) kinds.traf;
      tfhd-found = box-found c (body_of t).at e kinds.tfhd;
      tfdt-found = box-found c (end_of h) e kinds.tfdt;
      trun-found = box-found c (end_of d) e kinds.trun;
      senc-found = last_found c (end_of r) e kinds.senc (omega arith);
      saiz-found = last_found c (end_of r) e kinds.saiz (omega arith);
      saio-found = last_found c (end_of r) e kinds.saio (omega arith);
    }

-- ---- what the tests say

-- all three stand, with nothing after them
pub record Three (f : Inner) : Type 0 where
  pub senc-stands : f.senc.len ≡ 0 → ⊥
  pub saiz-stands : f.saiz.len ≡ 0 → ⊥
  pub saio-stands : f.saio.len ≡ 0 → ⊥
  pub ends : f.end ≡ end_of f.traf

pub record InnerSays (moof : Part) (f : Inner) : Type 0 where
  pub mfhd-stands : f.mfhd.len ≡ 0 → ⊥
  pub traf-stands : f.traf.len ≡ 0 → ⊥
  pub tfhd-stands : f.tfhd.len ≡ 0 → ⊥
  pub tfdt-stands : f.tfdt.len ≡ 0 → ⊥
  pub trun-stands : f.trun.len ≡ 0 → ⊥
  pub traf-ends : end_of f.traf ≡ end_of moof
  pub three-or-none : (end_of f.trun ≡ end_of f.traf) ⊎ Three f

has : (p : Part) → stands p ≡ true → p.len ≡ 0 → ⊥
has p e = eqb-false _ _ (not-true _ e)

pub three-says : (f : Inner) → three_or_none f ≡ true → (end_of f.trun ≡ end_of f.traf) ⊎ Three f
unfolding three_or_none
three-says f = by (eqb (end_of f.trun) (end_of f.traf)) refl
  where
    by : (t : Bool) → eqb (end_of f.trun) (end_of f.traf) ≡ t
        → (t || ((stands f.senc && (stands f.saiz && stands f.saio)) && eqb f.end (end_of f.traf))) ≡ true
        → (end_of f.trun ≡ end_of f.traf) ⊎ Three f
    by true e z = inl (eqb-true _ _ e)
    by false e z =
        let p = both_of (stands f.senc && (stands f.saiz && stands f.saio)) (eqb f.end (end_of f.traf)) z in
        let q = both_of (stands f.senc) (stands f.saiz && stands f.saio) p.0 in
        let r = both_of (stands f.saiz) (stands f.saio) q.1 in
        inr
        (record {
          senc-stands = has f.senc q.0;
          saiz-stands = has f.saiz r.0;
          saio-stands = has f.saio r.1;
          ends = eqb-true _ _ p.1;
        })

pub inner-says : (moof : Part) (f : Inner) → inner_ok moof f ≡ true → InnerSays moof f
unfolding inner_ok
inner-says moof f e =
    let p =
    both_of (stands f.mfhd && (stands f.traf && (stands f.tfhd && (stands f.tfdt && stands f.trun))))
    (eqb (end_of f.traf) (end_of moof) && three_or_none f) e in
    let q = both_of (stands f.mfhd) (stands f.traf && (stands f.tfhd && (stands f.tfdt && stands f.trun))) p.0 in
    let r = both_of (stands f.traf) (stands f.tfhd && (stands f.tfdt && stands f.trun)) q.1 in
    let s = both_of (stands f.tfhd) (stands f.tfdt && stands f.trun) r.1 in
    let t = both_of (stands f.tfdt) (stands f.trun) s.1 in
    let u = both_of (eqb (end_of f.traf) (end_of moof)) (three_or_none f) p.1 in
    record {
      mfhd-stands = has f.mfhd q.0;
      traf-stands = has f.traf r.0;
      tfhd-stands = has f.tfhd s.0;
      tfdt-stands = has f.tfdt t.0;
      trun-stands = has f.trun t.1;
      traf-ends = eqb-true _ _ u.0;
      three-or-none = three-says f u.1;
    }

-- ---- three boxes among which each of the three types is found are these three

-- a number is the length of the one of three boxes that has the type
abbrev LenOf : ℕ → Any → Any → Any → ℕ → Type 0
LenOf kind a b d n = ((a.kind ≡ kind) × (n ≡ a.len)) ⊎ (((b.kind ≡ kind) × (n ≡ b.len)) ⊎ ((d.kind ≡ kind) × (n ≡ d.len)))

pub pick-len : (kind : ℕ) (a b d : Any) → ((pick_of kind a b d).len ≡ 0 → ⊥) → LenOf kind a b d (pick_of kind a b d).len
pick-len kind a b d =
    let P : Part → Type 0 = λ p. (p.len ≡ 0 → ⊥) → LenOf kind a b d p.len in
    pick-one P kind a b d (λ e s. inl (e, refl)) (λ e s. inr (inl (e, refl))) (λ e s. inr (inr (e, refl))) (λ s. absurd (s refl))

-- the boxes are as long as the three, and none is a container
abbrev These : Any → Any → Any → ℕ → ℕ → ℕ → Type 0
These a b d x y z =
    (x + y + z ≡ a.len + b.len + d.len)
    × ((container a.kind ≡ false) × ((container b.kind ≡ false) × (container d.kind ≡ false)))

-- each of the three has one of the types
pub one_each : (a b d : Any) {x y z : ℕ} → LenOf kinds.senc a b d x → LenOf kinds.saiz a b d y → LenOf kinds.saio a b d z → These a b d x y z
unfolding container
one_each a b d (inl x) (inl y) z = absurd (omega (arith, x.0, y.0))
one_each a b d (inl x) (inr (inl y)) (inl z) = absurd (omega (arith, x.0, z.0))
one_each a b d (inl x) (inr (inl y)) (inr (inl z)) = absurd (omega (arith, y.0, z.0))
one_each a b d (inl x) (inr (inl y)) (inr (inr z)) = (omega (arith, x.1, y.1, z.1), (ap container x.0, (ap container y.0, ap container z.0)))
one_each a b d (inl x) (inr (inr y)) (inl z) = absurd (omega (arith, x.0, z.0))
one_each a b d (inl x) (inr (inr y)) (inr (inl z)) = (omega (arith, x.1, y.1, z.1), (ap container x.0, (ap container z.0, ap container y.0)))
one_each a b d (inl x) (inr (inr y)) (inr (inr z)) = absurd (omega (arith, y.0, z.0))
one_each a b d (inr (inl x)) (inl y) (inl z) = absurd (omega (arith, y.0, z.0))
one_each a b d (inr (inl x)) (inl y) (inr (inl z)) = absurd (omega (arith, x.0, z.0))
one_each a b d (inr (inl x)) (inl y) (inr (inr z)) = (omega (arith, x.1, y.1, z.1), (ap container y.0, (ap container x.0, ap container z.0)))
one_each a b d (inr (inl x)) (inr (inl y)) z = absurd (omega (arith, x.0, y.0))
one_each a b d (inr (inl x)) (inr (inr y)) (inl z) = (omega (arith, x.1, y.1, z.1), (ap container z.0, (ap container x.0, ap container y.0)))
one_each a b d (inr (inl x)) (inr (inr y)) (inr (inl z)) = absurd (omega (arith, x.0, z.0))
one_each a b d (inr (inl x)) (inr (inr y)) (inr (inr z)) = absurd (omega (arith, y.0, z.0))
one_each a b d (inr (inr x)) (inl y) (inl z) = absurd (omega (arith, y.0, z.0))
one_each a b d (inr (inr x)) (inl y) (inr (inl z)) = (omega (arith, x.1, y.1, z.1), (ap container y.0, (ap container z.0, ap container x.0)))
one_each a b d (inr (inr x)) (inl y) (inr (inr z)) = absurd (omega (arith, x.0, z.0))
one_each a b d (inr (inr x)) (inr (inl y)) (inl z) = (omega (arith, x.1, y.1, z.1), (ap container z.0, (ap container y.0, ap container x.0)))
one_each a b d (inr (inr x)) (inr (inl y)) (inr (inl z)) = absurd (omega (arith, y.0, z.0))
one_each a b d (inr (inr x)) (inr (inl y)) (inr (inr z)) = absurd (omega (arith, x.0, z.0))
one_each a b d (inr (inr x)) (inr (inr y)) z = absurd (omega (arith, x.0, y.0))

-- nothing else stands from the place on up to where the last of them ends
pub last-fill : (c : List ℕ) (at end : ℕ) → ((last_of c at end).senc.len ≡ 0 → ⊥) → ((last_of c at end).saiz.len ≡ 0 → ⊥)
    → ((last_of c at end).saio.len ≡ 0 → ⊥)
    → at + ((last_of c at end).senc.len + (last_of c at end).saiz.len + (last_of c at end).saio.len) ≡ (last_of c at end).end
unfolding last_of
last-fill c at end hx hy hz =
    let a : Any = any_at c at end in
    let b : Any = any_at c (a.at + a.len) end in
    let d : Any = any_at c (b.at + b.len) end in
    let pa : a.at ≡ at = any_place c at end in
    let pb : b.at ≡ a.at + a.len = any_place c (a.at + a.len) end in
    let pd : d.at ≡ b.at + b.len = any_place c (b.at + b.len) end in
    let s : (pick_of kinds.senc a b d).len + (pick_of kinds.saiz a b d).len + (pick_of kinds.saio a b d).len ≡ a.len + b.len + d.len =
    (one_each a b d (pick-len kinds.senc a b d hx) (pick-len kinds.saiz a b d hy) (pick-len kinds.saio a b d hz)).0 in
    omega arith

-- so where all three stand, the `trun` and they fill the `traf` to its end
pub three-fill : (c : List ℕ) (moof : Part)
    → let f = inner_of c moof in
    Three f → end_of f.trun + (f.senc.len + f.saiz.len + f.saio.len) ≡ end_of f.traf
unfolding inner_of traf_of
three-fill c moof h = last-fill c _ _ h.senc-stands h.saiz-stands h.saio-stands ∙ h.ends

-- the boxes that must stand have heads
pub record InnerEights (f : Inner) : Type 0 where
  pub mfhd-eight : 8 ≤ f.mfhd.len
  pub traf-eight : 8 ≤ f.traf.len
  pub tfhd-eight : 8 ≤ f.tfhd.len
  pub tfdt-eight : 8 ≤ f.tfdt.len
  pub trun-eight : 8 ≤ f.trun.len

pub inner-eights : (c : List ℕ) (moof : Part) → inner_ok moof (inner_of c moof) ≡ true → InnerEights (inner_of c moof)
inner-eights c moof e =
    let s = inner-says moof (inner_of c moof) e in
    let f = inner-found c moof in
    record {
      mfhd-eight = found-eight c _ _ _ f.mfhd-found s.mfhd-stands;
      traf-eight = found-eight c _ _ _ f.traf-found s.traf-stands;
      tfhd-eight = found-eight c _ _ _ f.tfhd-found s.tfhd-stands;
      tfdt-eight = found-eight c _ _ _ f.tfdt-found s.tfdt-stands;
      trun-eight = found-eight c _ _ _ f.trun-found s.trun-stands;
    }
