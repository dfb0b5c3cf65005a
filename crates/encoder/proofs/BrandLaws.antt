-- Id 23: brands, weighed by their length and written from their part of a chunk. Assumes nothing.
use Prim.Native.Nat.{ℕ, ◌+◌, ◌-◌, ◌≤◌, ◌<◌}
use native.Mathlib.Omega.{arith}
use mathlib.Core.Path.{◌≡◌, refl, sym, ◌∙◌, ap, ap₂}
use mathlib.Core.Logic.{◌⊎◌, inl, inr}
use mathlib.Core.Bool.{Bool, true, false, false≢true, ◌||◌}
use mathlib.Core.List.{List, [], ◌∷◌, ◌++◌}
use Rattle.std.specs.Prelude.{Some}
use borrow.Author.Tests.{eqb-true, eqb-false, ne_eqb}
use lib.Dec.{eqb}
use lib.ListN.{length, take, drop, length-append}
use lib.Seq.{slice, length-slice}
use Rattle.constants.specs.Maxima.{brand_bytes_most}
use Rattle.laws.proofs.SliceLaws.{slice-none, take-slice, drop-slice, slice-lent}
use Rattle.laws.proofs.PartLaws.{joined}
use Rattle.wire.specs.declared.form.Row.{Row}
use Rattle.wire.specs.declared.form.Form.{Form}
use Rattle.wire.specs.Form.{rows, limit}
use Rattle.wire.specs.Varint.{encode, size_of}
use Rattle.wire.proofs.SizeLaws.{limit-62}
use Rattle.block_items.specs.Items.{run}
use Rattle.byte_parts.specs.declared.Part.{Part}
use Rattle.cmaf_read_shape.specs.Parts.{end_of}
use Rattle.cmaf_read_chunk.specs.Accepted.{brands_of}
use Rattle.locmaf_write_tuples.specs.Items.{nothing, items_if, bytes_of, pair_most, WeighedAs}
use Rattle.locmaf_write_tuples.proofs.ItemLaws.{run-parts, block_one, run_length, weighed-fit}
use Rattle.encoder.specs.Object.{brand_items}
use Rattle.encoder.specs.Planned.{BrandBytes, brands_at}

-- ---- the items, by the brands

no_items : (delta : Bool) (names : List ℕ) → (delta ≡ true) ⊎ (length names ≡ 0) → brand_items delta names ≡ nothing
unfolding brand_items items_if
no_items true names e = refl
no_items false names (inl e) = absurd (false≢true e)
no_items false names (inr e) = rw e

some-items : (delta : Bool) (names : List ℕ) → delta ≡ false → (length names ≡ 0 → ⊥) → brand_items delta names ≡ Some (run 23 names ∷ [])
unfolding brand_items items_if
some-items delta names d e = rw (d, ne_eqb _ _ e)

either : (delta : Bool) (n : ℕ) → (delta || eqb n 0) ≡ true → (delta ≡ true) ⊎ (n ≡ 0)
either true n e = inl refl
either false n e = inr (eqb-true n 0 e)

neither : (delta : Bool) (n : ℕ) → (delta || eqb n 0) ≡ false → (delta ≡ false) × (n ≡ 0 → ⊥)
neither true n e = absurd (false≢true (sym e))
neither false n e = (refl, eqb-false n 0 e)

-- the bytes that are lent: the major brand, and the compatible ones
abbrev pub brand_parts : List Row → List ℕ → ℕ → ℕ → List (List ℕ)
brand_parts F c from n =
    (encode F 23 ++ encode F (n - 4)) ∷ take (from + 4 - from) (drop from c) ∷ take (from + n - (from + 8)) (drop (from + 8) c) ∷ []

-- some stand
pub brands-long : {n : ℕ} → BrandBytes n → (delta : Bool) → (delta || eqb n 0) ≡ false → 8 ≤ n
brands-long {n} h delta e = h.long (neither delta n e).1

-- names of a `styp` with a body of n bytes
module _ (form : Form) {n : ℕ} (h : BrandBytes n) (names : List ℕ) (are : length names ≡ n - 4) (delta : Bool) where
  -- none stand
  pub brands-none : (delta || eqb n 0) ≡ true → brand_items delta names ≡ nothing
  brands-none e = go (either delta n e)
    where
      go : (delta ≡ true) ⊎ (n ≡ 0) → brand_items delta names ≡ nothing
      go (inl d) = no_items delta names (inl d)
      go (inr z) = no_items delta names (inr (omega (arith, are, z)))

  module _ (e : (delta || eqb n 0) ≡ false) where
    brands-some : brand_items delta names ≡ Some (run 23 names ∷ [])
    brands-some = some-items delta names (neither delta n e).0 (λ z. omega (arith, are, brands-long h delta e, z))

    -- their weight
    pub brands-weighed : {m : ℕ} → (m ≡ size_of (rows form) 23 + (size_of (rows form) (n - 4) + (n - 4))) × (m ≤ 16 + (n - 4))
        → WeighedAs (rows form) (brand_items delta names) (pair_most + brand_bytes_most) (Some m)
    brands-weighed {m} f =
        let p : 23 < limit (rows form) = omega (arith, limit-62 form) in
        let q : length names < limit (rows form) = omega (arith, limit-62 form, are, h.few) in
        let b : length (bytes_of (rows form) (Some (run 23 names ∷ []))) ≡ size_of (rows form) 23 + (size_of (rows form) (n - 4) + (n - 4)) =
        ap length (block_one (rows form) (run 23 names))
        ∙ run_length (rows form) 23 names p q
        ∙ ap (λ (i : ℕ). size_of (rows form) 23 + (size_of (rows form) i + i)) are in
        rw brands-some (weighed-fit refl (f.0 ∙ sym b) (omega (arith, f.1, h.few)))

-- names in their part of a chunk
module _ (c : List ℕ) (p : Part) (h : BrandBytes p.len) (i : end_of p ≤ length c) where
  abbrev from : ℕ
  from = p.at

  abbrev n : ℕ
  n = p.len

  names-split : 8 ≤ n → brands_at c p ≡ slice from (from + 4) c ++ slice (from + 8) (from + n) c
  unfolding brands_of
  names-split l =
      ap₂ (λ (a b : List ℕ). a ++ b) (take-slice from (from + n) 4 c (omega (arith, l)) i)
      (drop-slice from (from + n) 8 c)

  pub names-length : length (brands_at c p) ≡ n - 4
  unfolding brands_of
  names-length = go (eqb n 0) refl
    where
      go : (z : Bool) → eqb n 0 ≡ z → length (brands_at c p) ≡ n - 4
      go true e =
          let z : n ≡ 0 = eqb-true n 0 e in
          ap (λ (b : List ℕ). length (brands_of b)) (slice-none from (from + n) c (omega (arith, z))) ∙ omega (arith, z)
      go false e =
          let l : 8 ≤ n = h.long (eqb-false n 0 e) in
          ap length (names-split l)
          ∙ omega (
            arith,
            length-append (slice from (from + 4) c) (slice (from + 8) (from + n) c),
            length-slice from (from + 4) c (omega arith),
            length-slice (from + 8) (from + n) c i,
          )

  -- their bytes as they are lent
  pub brand-parts : (form : Form) (delta : Bool) → (delta || eqb n 0) ≡ false
      → joined (brand_parts (rows form) c from n) ≡ bytes_of (rows form) (brand_items delta (brands_at c p))
  brand-parts form delta e =
      let l : 8 ≤ n = brands-long h delta e in
      ap₂ (λ (a b : List ℕ). (encode (rows form) 23 ++ encode (rows form) (n - 4)) ++ (a ++ b))
      (slice-lent from (from + 4) c (omega arith) (omega arith))
      (slice-lent (from + 8) (from + n) c (omega arith) i)
      ∙ ap₂ (λ (i : ℕ) (b : List ℕ). (encode (rows form) 23 ++ encode (rows form) i) ++ b) (sym names-length) (sym (names-split l))
      ∙ run-parts (rows form) 23 (brands_at c p)
      ∙ ap (bytes_of (rows form)) (sym (brands-some form h (brands_at c p) names-length delta e))
