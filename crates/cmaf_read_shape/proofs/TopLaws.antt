-- The boxes at the top lie in the chunk, one after another. Assumes nothing.
use Prim.Native.Nat.{ℕ, ◌+◌, ◌-◌, ◌*◌, ◌≤◌}
use native.Mathlib.Nat.{le_refl}
use native.Mathlib.Omega.{arith}
use mathlib.Core.Path.{◌≡◌, refl, sym, ◌∙◌, ap}
use mathlib.Core.Bool.{true, not, ◌&&◌}
use mathlib.Core.List.{List}
use borrow.Author.Tests.{eqb-true, eqb-false, not-true}
use lib.Dec.{eqb}
use lib.ListN.{length}
use Rattle.laws.proofs.TestLaws.{and_left, and_right}
use Rattle.boxes.specs.Box as kinds
use Rattle.byte_parts.specs.declared.Part.{Part}
use Rattle.cmaf_read_shape.specs.declared.top.Top.{Top}
use Rattle.cmaf_read_shape.specs.declared.top.Row.{Row}
use Rattle.cmaf_read_shape.specs.Parts.{part, end_of, box_at, Inside}
use Rattle.cmaf_read_shape.specs.Top.{row, emsgs_from, top_of, top_ok}
use Rattle.cmaf_read_shape.proofs.PartLaws.{box-place, box-inside, found-eight}
use Rattle.cmaf_read_shape.proofs.RunLaws.{run-after, run_inside, run-eights}

pub top-is : (c : List ℕ) (top : Top) {x : ℕ} → x ≡ end_of top.mdat
    → (not (eqb top.moof.len 0) && (not (eqb top.mdat.len 0) && eqb x (length c))) ≡ top_ok c top
unfolding top_ok
top-is c top p = λ i. not (eqb top.moof.len 0) && (not (eqb top.mdat.len 0) && eqb (p i) (length c))

-- the boxes, by the places that the code has computed
pub top-of-is : (c : List ℕ) {at : ℕ} {styp prft moof mdat : Part} {run : Row}
    → styp ≡ box_at c 0 (length c) kinds.styp
    → prft ≡ box_at c (end_of styp) (length c) kinds.prft
    → at ≡ end_of prft
    → run ≡ emsgs_from c at
    → at ≤ run.end
    → moof ≡ box_at c (at + (run.end - at)) (length c) kinds.moof
    → mdat ≡ box_at c (end_of moof) (length c) kinds.mdat
    → record { styp = styp; prft = prft; emsgs = part at (run.end - at); events = run.count; moof = moof; mdat = mdat } ≡ top_of c
unfolding top_of
top-of-is c {at} {styp} {prft} {moof} {mdat} {run} s p a r l m d =
    let place : at + (run.end - at) ≡ run.end = omega arith in
    let p' = p ∙ (λ i. box_at c (end_of (s i)) (length c) kinds.prft) in
    let a' = a ∙ (λ i. end_of (p' i)) in
    let r' = r ∙ (λ i. emsgs_from c (a' i)) in
    let m' = m ∙ ap (λ (x : ℕ). box_at c x (length c) kinds.moof) place ∙ (λ i. box_at c (r' i).end (length c) kinds.moof) in
    let d' = d ∙ (λ i. box_at c (end_of (m' i)) (length c) kinds.mdat) in
    λ i.
    record {
      styp = s i;
      prft = p' i;
      emsgs = part (a' i) ((r' i).end - a' i);
      events = (r' i).count;
      moof = m' i;
      mdat = d' i;
    }

-- ---- where they lie

-- one after another, from the chunk's start on, and all in the chunk
pub record TopIn (c : List ℕ) (t : Top) : Type 0 where
  pub styp-at : t.styp.at ≡ 0
  pub prft-at : t.prft.at ≡ end_of t.styp
  pub emsgs-at : t.emsgs.at ≡ end_of t.prft
  pub moof-at : t.moof.at ≡ end_of t.emsgs
  pub mdat-at : t.mdat.at ≡ end_of t.moof
  pub in-chunk : end_of t.mdat ≤ length c
  pub events-few : 8 * t.events ≤ t.emsgs.len

pub top_in : (c : List ℕ) → TopIn c (top_of c)
unfolding top_of
top_in c =
    let n : ℕ = length c in
    let s : Part = box_at c 0 n kinds.styp in
    let p : Part = box_at c (end_of s) n kinds.prft in
    let r : Row = emsgs_from c (end_of p) in
    let m : Part = box_at c r.end n kinds.moof in
    let hs : end_of s ≤ n = box-inside c 0 n kinds.styp (omega arith) (le_refl n) in
    let hp : end_of p ≤ n = box-inside c (end_of s) n kinds.prft hs (le_refl n) in
    let hr : r.end ≤ n = run_inside c (end_of p) hp in
    let lr : end_of p ≤ r.end = run-after c (end_of p) in
    let hm : end_of m ≤ n = box-inside c r.end n kinds.moof hr (le_refl n) in
    let am : m.at ≡ r.end = box-place c r.end n kinds.moof in
    let few : end_of p + 8 * r.count ≤ r.end = run-eights c (end_of p) in
    record {
      styp-at = box-place c 0 n kinds.styp;
      prft-at = box-place c (end_of s) n kinds.prft;
      emsgs-at = refl;
      moof-at = omega arith;
      mdat-at = box-place c (end_of m) n kinds.mdat;
      in-chunk = box-inside c (end_of m) n kinds.mdat hm (le_refl n);
      events-few = omega arith;
    }

module _ {c : List ℕ} {t : Top} (h : TopIn c t) where
  pub styp-inside : Inside c t.styp
  styp-inside = record { within = omega (arith, h) }

  pub prft-inside : Inside c t.prft
  prft-inside = record { within = omega (arith, h) }

  pub emsgs-inside : Inside c t.emsgs
  emsgs-inside = record { within = omega (arith, h) }

  pub moof-inside : Inside c t.moof
  moof-inside = record { within = omega (arith, h) }

  pub mdat-inside : Inside c t.mdat
  mdat-inside = record { within = h.in-chunk }

-- each is the box of its type that is found at its place
pub record TopFound (c : List ℕ) (t : Top) : Type 0 where
  pub styp-found : t.styp ≡ box_at c t.styp.at (length c) kinds.styp
  pub prft-found : t.prft ≡ box_at c t.prft.at (length c) kinds.prft
  pub emsgs-found : row (end_of t.emsgs) t.events ≡ emsgs_from c t.emsgs.at
  pub moof-found : t.moof ≡ box_at c t.moof.at (length c) kinds.moof
  pub mdat-found : t.mdat ≡ box_at c t.mdat.at (length c) kinds.mdat

found_here : (c : List ℕ) (at end kind : ℕ) → box_at c at end kind ≡ box_at c (box_at c at end kind).at end kind
found_here c at end kind = ap (λ (x : ℕ). box_at c x end kind) (sym (box-place c at end kind))

pub top-found : (c : List ℕ) → TopFound c (top_of c)
unfolding top_of
top-found c =
    let n : ℕ = length c in
    let s : Part = box_at c 0 n kinds.styp in
    let p : Part = box_at c (end_of s) n kinds.prft in
    let r : Row = emsgs_from c (end_of p) in
    let m : Part = box_at c r.end n kinds.moof in
    let lr : end_of p ≤ r.end = run-after c (end_of p) in
    let er : end_of p + (r.end - end_of p) ≡ r.end = omega arith in
    record {
      styp-found = found_here c 0 n kinds.styp;
      prft-found = found_here c (end_of s) n kinds.prft;
      emsgs-found = ap (λ (x : ℕ). row x r.count) er;
      moof-found = found_here c r.end n kinds.moof;
      mdat-found = found_here c (end_of m) n kinds.mdat;
    }

-- ---- what the test says

pub record TopSays (c : List ℕ) (t : Top) : Type 0 where
  pub moof-stands : t.moof.len ≡ 0 → ⊥
  pub mdat-stands : t.mdat.len ≡ 0 → ⊥
  pub ends : end_of t.mdat ≡ length c

pub top-says : (c : List ℕ) (t : Top) → top_ok c t ≡ true → TopSays c t
unfolding top_ok
top-says c t e =
    let r = and_right (not (eqb t.moof.len 0)) (not (eqb t.mdat.len 0) && eqb (end_of t.mdat) (length c)) e in
    record {
      moof-stands =
          eqb-false _ _ (not-true _ (and_left (not (eqb t.moof.len 0)) (not (eqb t.mdat.len 0) && eqb (end_of t.mdat) (length c)) e));
      mdat-stands = eqb-false _ _ (not-true _ (and_left (not (eqb t.mdat.len 0)) (eqb (end_of t.mdat) (length c)) r));
      ends = eqb-true _ _ (and_right (not (eqb t.mdat.len 0)) (eqb (end_of t.mdat) (length c)) r);
    }

-- `moof` and `mdat` have heads
pub top-eights : (c : List ℕ) → top_ok c (top_of c) ≡ true → (8 ≤ (top_of c).moof.len) × (8 ≤ (top_of c).mdat.len)
top-eights c e =
    let s = top-says c (top_of c) e in
    let f = top-found c in
    (found-eight c _ _ _ f.moof-found s.moof-stands, found-eight c _ _ _ f.mdat-found s.mdat-stands)
