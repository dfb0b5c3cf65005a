-- The brands of a `styp` that is right and keeps its maximum: whole ones, at most 16. Assumes nothing.
use Prim.Native.Nat.{ℕ, ◌+◌, ◌-◌, ◌/◌, ◌%◌, ◌≤◌, min}
use native.Mathlib.Omega.{arith}
use mathlib.Core.Path.{◌≡◌, sym, ◌∙◌, ap}
use mathlib.Core.Logic.{◌⊎◌, inl, inr}
use mathlib.Core.Bool.{true}
use mathlib.Core.List.{List, ◌++◌}
use lib.ListN.{length, take, drop, length-append, length-take, length-drop}
use lib.Seq.{length-slice}
use Rattle.constants.specs.Maxima.{brand_bytes_most, brands_most}
use Rattle.byte_parts.specs.declared.Part.{Part}
use Rattle.cmaf_read_shape.specs.Parts.{Inside, end_of, body_of}
use Rattle.cmaf_read_shape.proofs.PartLaws.{body-short, body-long, body-in}
use Rattle.cmaf_read_prelude.specs.Styp.{styp_ok, brands_in}
use Rattle.cmaf_read_prelude.proofs.StypLaws.{styp-long, brands-some}
use Rattle.cmaf_read_chunk.specs.Accepted.{bytes_at, brands_of}

-- the bytes in a `styp`: none, or those of a brand, a version and more brands
abbrev pub StypBytes : ℕ → Type 0
StypBytes n = (n ≡ 0) ⊎ ((8 ≤ n) × ((n ≤ brand_bytes_most + 4) × (n % 4 ≡ 0)))

module _ (b : Part) (ok : styp_ok b ≡ true) (few : brands_in b ≤ brands_most) where
  pub styp-body : StypBytes (body_of b).len
  styp-body = by (styp-long b ok)
    where
      by : (b.len ≡ 0) ⊎ ((16 ≤ b.len) × (b.len % 4 ≡ 0)) → StypBytes (body_of b).len
      by (inl e) = inl (sym (ap (λ (p : Part). p.len) (body-short b (omega arith))))
      by (inr (a, m)) =
          let k : b.len - 8 ≡ (body_of b).len = ap (λ (p : Part). p.len) (body-long b (omega arith)) in
          let n : (b.len - 12) / 4 ≤ brands_most = omega (arith, brands-some b a) in
          inr (omega arith, (omega arith, omega arith))

  -- without the version, four bytes a brand
  pub brands-fit : (c : List ℕ) → Inside c b → (length (brands_of (bytes_at c (body_of b))) ≤ brand_bytes_most) × (length (brands_of (bytes_at c (body_of b))) % 4 ≡ 0)
  unfolding brands_of
  brands-fit c i =
      let body : List ℕ = bytes_at c (body_of b) in
      let s : length body ≡ (body_of b).len = length-slice (body_of b).at (end_of (body_of b)) c (omega (arith, (body-in b).ends, i.within)) ∙ omega arith in
      by (length (take 4 body ++ drop 8 body)) (omega (arith, length-append (take 4 body) (drop 8 body), length-take 4 body, length-drop 8 body)) styp-body
    where
      by : (k : ℕ) → k ≡ min 4 (body_of b).len + ((body_of b).len - 8) → StypBytes (body_of b).len → (k ≤ brand_bytes_most) × (k % 4 ≡ 0)
      by k n (inl e) = (omega arith, omega arith)
      by k n (inr (a, (l, m))) = (omega arith, omega arith)
