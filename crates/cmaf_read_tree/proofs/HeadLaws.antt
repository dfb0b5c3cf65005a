-- The head of the box at a place of a list. Assumes nothing.
use Prim.Native.Nat.{ℕ, ◌+◌, ◌-◌, ◌≤◌, ◌<◌}
use native.Mathlib.Omega.{arith}
use mathlib.Core.Path.{◌≡◌, refl, sym, ◌∙◌, ap, ap₂}
use mathlib.Core.Bool.{Bool, true, false}
use mathlib.Core.List.{List}
use lib.ListN.{length, drop, length-drop}
use lib.Seq.{slice}
use Rattle.laws.specs.Bytes.{de}
use Rattle.laws.specs.Gate.{gate}
use Rattle.laws.proofs.GateLaws.{stop, pass}
use Rattle.laws.proofs.SliceLaws.{slice-drop}
use Rattle.std.specs.Prelude.{Option, Some, None}
use Rattle.std.proofs.lemmas.Option.{none-some, some_pair_parts}
use Rattle.cmaf_read_tree.specs.Whole.{size_of, kind_of, sized}
use Rattle.cmaf_read_tree.specs.Heads.{head_of}
use Rattle.cmaf_read_tree.proofs.WholeLaws.{Sized, sized-says, sized-is}

-- no box stands at the front of the list
sized-not : (l : List ℕ) → (Sized l → ⊥) → sized l ≡ false
sized-not l h = by (sized l) refl
  where
    by : (t : Bool) → sized l ≡ t → sized l ≡ false
    by true e = absurd (h (sized-says l e))
    by false e = e

head-not : (l : List ℕ) → (Sized l → ⊥) → None ≡ head_of l
unfolding head_of
head-not l h = stop _ (sized-not l h)

-- ---- what was read at a place, and the head there

module _ (s : List ℕ) (at : ℕ) where
  pub head-short : length s - at < 8 → None ≡ head_of (drop at s)
  head-short h = head-not (drop at s) (λ z. omega (arith, z, length-drop at s))

  module _ (h : at ≤ length s) where
    size-at : size_of (drop at s) ≡ de (slice at (at + 4) s)
    unfolding size_of
    size-at = let z : at + 0 ≡ at = omega arith in ap de (slice-drop at 0 4 s h) ∙ ap (λ (m : ℕ). de (slice m (at + 4) s)) z

    kind_at : kind_of (drop at s) ≡ de (slice (at + 4) (at + 4 + 4) s)
    unfolding kind_of
    kind_at = let z : at + 8 ≡ at + 4 + 4 = omega arith in ap de (slice-drop at 4 8 s h) ∙ ap (λ (m : ℕ). de (slice (at + 4) m s)) z

    module _ (n : ℕ) (e : n ≡ de (slice at (at + 4) s)) where
      pub head_small : n < 8 → None ≡ head_of (drop at s)
      head_small l = head-not (drop at s) (λ z. omega (arith, z, size-at))

      pub head-cut : length s - at < n → None ≡ head_of (drop at s)
      head-cut l = head-not (drop at s) (λ z. omega (arith, z, size-at, length-drop at s))

    pub head-stands : (n k : ℕ) → n ≡ de (slice at (at + 4) s) → k ≡ de (slice (at + 4) (at + 4 + 4) s)
        → 8 ≤ length s - at → 8 ≤ n → n ≤ length s - at → Some (n, k) ≡ head_of (drop at s)
    unfolding head_of
    head-stands n k e f a b c =
        let z : Sized (drop at s) =
        record {
          long = omega (arith, length-drop at s);
          eight = omega (arith, size-at);
          fits = omega (arith, size-at, length-drop at s);
        } in
        pass _ (sized-is (drop at s) z) (ap₂ (λ (m j : ℕ). Some (m, j)) (e ∙ sym size-at) (f ∙ sym kind_at))

-- ---- what an answered head says

pub record HeadAt (s : List ℕ) (at n k : ℕ) : Type 0 where
  pub is-sized : Sized (drop at s)
  pub size : n ≡ size_of (drop at s)
  pub kind : k ≡ kind_of (drop at s)
  pub eight : 8 ≤ n
  pub room : at + n ≤ length s

stands-inv : {n k : ℕ} (t : Bool) (m j : ℕ) → ◌≡◌ {A = Option (ℕ × ℕ)} (Some (n, k)) (gate t None (Some (m, j))) → (t ≡ true) × (n ≡ m) × (k ≡ j)
unfolding gate
stands-inv true m j e = let p = some_pair_parts _ _ _ _ e in (refl, p.0, p.1)
stands-inv false m j e = absurd (none-some _ (sym e))

broken-inv : (t : Bool) (m j : ℕ) → ◌≡◌ {A = Option (ℕ × ℕ)} None (gate t None (Some (m, j))) → t ≡ false
unfolding gate
broken-inv true m j e = absurd (none-some _ e)
broken-inv false m j e = refl

pub head_at : (s : List ℕ) (at n k : ℕ) → Some (n, k) ≡ head_of (drop at s) → HeadAt s at n k
unfolding head_of
head_at s at n k e =
    let l : List ℕ = drop at s in
    let p = stands-inv (sized l) (size_of l) (kind_of l) e in
    let z = sized-says l p.0 in
    record { is-sized = z; size = p.1; kind = p.2; eight = omega (arith, z, p.1); room = omega (arith, z, p.1, length-drop at s) }

pub head-broken : (l : List ℕ) → None ≡ head_of l → sized l ≡ false
unfolding head_of
head-broken l e = broken-inv (sized l) (size_of l) (kind_of l) e
