-- The number that the bytes at a place spell, once over the width. Assumes nothing.
use Prim.Native.Nat.{ℕ, suc, ◌+◌, ◌-◌, ◌*◌, ◌^◌, ◌≤◌, ◌<◌}
use native.Mathlib.Nat.{zero-lt-suc, pow-le-pow_right, pow-suc}
use native.Mathlib.Numerals.{add-one}
use native.Mathlib.Omega.{arith}
use mathlib.Core.Path.{◌≡◌, sym, ◌∙◌, ap}
use mathlib.Core.List.{List, [], ◌∷◌}
use lib.ListN.{length, get_or}
use lib.Seq.{slice, slice-cons, length-slice}
use Rattle.laws.specs.Bytes.{de}
use Rattle.laws.proofs.BytesLaws.{de-append}
use Rattle.laws.proofs.SliceLaws.{slice-none, slice-join}

-- one byte
pub de-one : (at : ℕ) (s : List ℕ) → at < length s → get_or s at 0 ≡ de (slice at (at + 1) s)
unfolding de
de-one at s h =
    let e : slice at (at + 1) s ≡ get_or s at 0 ∷ [] =
    slice-cons at (at + 1) s 0 (omega arith) (omega arith) ∙ ap (λ (l : List ℕ). get_or s at 0 ∷ l) (slice-none (suc at) (at + 1) s (omega arith)) in
    sym (ap de e ∙ omega arith)

-- the number of j + k bytes, by its two parts
pub de-halves : (j k at : ℕ) (s : List ℕ) → at + (j + k) ≤ length s
    → de (slice at (at + j) s) * 256 ^ k + de (slice (at + j) (at + j + k) s) ≡ de (slice at (at + (j + k)) s)
de-halves j k at s h =
    let a : List ℕ = slice at (at + j) s in
    let b : List ℕ = slice (at + j) (at + j + k) s in
    let t : at + (j + k) ≡ at + j + k = omega arith in
    let n : at + j + k - (at + j) ≡ k = omega arith in
    let len : length b ≡ k = length-slice (at + j) (at + j + k) s (omega arith) ∙ n in
    sym
    (ap (λ (m : ℕ). de (slice at m s)) t
    ∙ ap de (slice-join at (at + j) (at + j + k) s (omega arith) (omega arith) (omega arith))
    ∙ de-append a b
    ∙ ap (λ (m : ℕ). de a * 256 ^ m + de b) len)

-- the first i of eight bytes are spelt
pub record Spelling (s : List ℕ) (at v i : ℕ) : Type 0 where
  pub inside : at + 8 ≤ length s
  pub few : i ≤ 8
  pub so_far : v ≡ de (slice at (at + i) s)
  pub small : v < 256 ^ i

module _ (s : List ℕ) (at : ℕ) where
  pub spelling-start : at + 8 ≤ length s → Spelling s at 0 0
  unfolding de
  spelling-start h =
      record { inside = h; few = omega arith; so_far = sym (ap de (slice-none at (at + 0) s (omega arith))); small = omega arith }

  module _ (v i : ℕ) (h : Spelling s at v i) where
    pub spelling-end : 8 ≤ i → v ≡ de (slice at (at + 8) s)
    spelling-end k = let e : i ≡ 8 = omega (arith, h.few) in rw e at h.so_far

    module _ (k : i < 8) where
      below : i ≤ 7
      below = omega (arith, k)

      most : v < 256 ^ 7
      most = let p : 256 ^ i ≤ 256 ^ 7 = pow-le-pow_right (zero-lt-suc 255) below in omega (arith, h.small)

      pub spelling-fits : v * 256 + 255 < 2 ^ 64
      spelling-fits = let p = most in omega arith

      pub spelling-next : (r : ℕ) → (r ≡ de (slice (at + i) (at + i + 1) s)) × (r < 2 ^ 8) → Spelling s at (v * 256 + r) (i + 1)
      spelling-next r e =
          let p : 256 ^ (i + 1) ≡ 256 ^ i * 256 = ap (λ (n : ℕ). 256 ^ n) (add-one i) ∙ pow-suc 256 i in
          record {
            inside = h.inside;
            few = omega arith;
            so_far = omega (arith, h.so_far, e.0, de-halves i 1 at s (omega (arith, h.inside)));
            small = rw p (omega (arith, h.small, e.1));
          }
