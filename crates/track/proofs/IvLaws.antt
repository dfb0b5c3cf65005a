-- IV sizes by the protection: 8 or 16 on cenc, else 0. Assumes nothing.
use Prim.Native.Nat.{ℕ, ◌*◌, ◌/◌}
use native.Mathlib.Omega.{arith}
use mathlib.Core.Path.{◌≡◌, sym, ◌∙◌, ap}
use mathlib.Core.Bool.{true, false, not, ◌&&◌, ◌||◌}
use mathlib.Core.Logic.{◌⊎◌, inl, inr}
use borrow.Author.Tests.{eqb-true, eq-eqb, ne_eqb}
use lib.Dec.{eqb}
use Rattle.laws.proofs.TestLaws.{both_of, either}
use Rattle.track.specs.Track.{iv_ok, cenc}

abbrev Cases : ℕ → ℕ → Type 0
Cases p i = ((eqb p cenc ≡ true) × ((i ≡ 8) ⊎ (i ≡ 16))) ⊎ ((eqb p cenc ≡ false) × (i ≡ 0))

iv-cases : (p i : ℕ) → iv_ok p i ≡ true → Cases p i
iv-cases p i e =
    either (Cases p i) (eqb p 1 && (eqb i 8 || eqb i 16)) ((eqb p 0 || eqb p 2) && eqb i 0)
    (λ q.
    let r = both_of (eqb p 1) (eqb i 8 || eqb i 16) q in
    inl (r.0, either ((i ≡ 8) ⊎ (i ≡ 16)) (eqb i 8) (eqb i 16) (λ z. inl (eqb-true i 8 z)) (λ z. inr (eqb-true i 16 z)) r.1))
    (λ q.
    let r = both_of (eqb p 0 || eqb p 2) (eqb i 0) q in
    let apart : p ≡ 1 → ⊥ = λ y. either ⊥ (eqb p 0) (eqb p 2) (λ z. omega (arith, eqb-true p 0 z)) (λ z. omega (arith, eqb-true p 2 z)) r.0 in
    inr (ne_eqb p 1 apart, eqb-true i 0 r.1))
    e

-- whole words of eight bytes
pub iv-eights : (p i : ℕ) → iv_ok p i ≡ true → 8 * (i / 8) ≡ i
iv-eights p i e = by (iv-cases p i e)
  where
    by : Cases p i → 8 * (i / 8) ≡ i
    by (inl (q, inl z)) = omega arith
    by (inl (q, inr z)) = omega arith
    by (inr (q, z)) = omega arith

-- an IV size is 0 just where the track isn't cenc
pub iv-stands : (p i : ℕ) → iv_ok p i ≡ true → not (eqb i 0) ≡ eqb p cenc
iv-stands p i e = by (iv-cases p i e)
  where
    by : Cases p i → not (eqb i 0) ≡ eqb p cenc
    by (inl (q, inl z)) = ap not (ne_eqb i 0 (λ (y : i ≡ 0). omega arith)) ∙ sym q
    by (inl (q, inr z)) = ap not (ne_eqb i 0 (λ (y : i ≡ 0). omega arith)) ∙ sym q
    by (inr (q, z)) = ap not (eq-eqb i 0 z) ∙ sym q
