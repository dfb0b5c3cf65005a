-- What stands in a `styp` whose minor version is 0 is known by its brands. Assumes nothing.
use Prim.Native.Nat.{ℕ, ◌+◌, ◌-◌, ◌%◌, ◌≤◌, ◌<◌}
use native.Mathlib.Nat.{not-suc-le-zero}
use native.Mathlib.Omega.{arith}
use mathlib.Core.Path.{◌≡◌, refl, sym, ◌∙◌, ap, ap₂, subst}
use mathlib.Core.Logic.{◌⊎◌, inl, inr}
use mathlib.Core.Bool.{true, cond}
use mathlib.Core.List.{List, [], ◌∷◌, ◌++◌}
use borrow.Author.Tests.{eq-eqb, ne_eqb}
use lib.Dec.{eqb}
use lib.ListN.{length, take, drop, length-append, length-take, take-append-drop}
use lib.Seq.{slice, length-slice, take_at, drop_at, drop-drop}
use Rattle.std.specs.Prelude.{Some, None}
use Rattle.laws.specs.Bytes.{be}
use Rattle.laws.specs.Tests.{all_le}
use Rattle.laws.proofs.BytesLaws.{be-slice}
use Rattle.laws.proofs.SliceLaws.{slice-none, take-slice, drop-slice}
use Rattle.byte_parts.specs.declared.Part.{Part}
use Rattle.cmaf_read_shape.specs.Parts.{end_of, body_of, Inside}
use Rattle.cmaf_read_shape.proofs.PartLaws.{body-short, body-long}
use Rattle.cmaf_read_prelude.specs.Styp.{styp_ok, minor_version}
use Rattle.cmaf_read_prelude.proofs.StypLaws.{styp-long, minor-some}
use Rattle.cmaf_read_chunk.specs.Accepted.{bytes_at, brands_of}
use Rattle.meaning.specs.Meaning.{styp_of}
use Rattle.meant.specs.BySet.{styp_by}

-- brands, put together as a `styp` has them
styp-some : (l : List ℕ) → 0 < length l → styp_by l ≡ Some (take 4 l ++ (be 4 0 ++ drop 4 l))
unfolding styp_by
styp-some [] h = absurd (not-suc-le-zero h)
styp-some (x ∷ l) h = refl

-- taken out of a body whose minor version is 0, and put together again
styp-back : (s : List ℕ) → 8 ≤ length s → take 4 (drop 4 s) ≡ be 4 0 → styp_by (brands_of s) ≡ Some s
unfolding brands_of
styp-back s h z =
    let n : length (take 4 s) ≡ 4 = omega (arith, length-take 4 s) in
    let rest : drop 4 s ≡ be 4 0 ++ drop 8 s = sym (take-append-drop 4 (drop 4 s)) ∙ ap₂ (λ (a b : List ℕ). a ++ b) z (drop-drop 4 4 s) in
    styp-some (take 4 s ++ drop 8 s) (omega (arith, length-append (take 4 s) (drop 8 s)))
    ∙ ap₂ (λ (a b : List ℕ). Some (a ++ (be 4 0 ++ b))) (take_at (take 4 s) (drop 8 s) 4 n) (drop_at (take 4 s) (drop 8 s) 4 n)
    ∙ ap Some (ap (λ (l : List ℕ). take 4 s ++ l) (sym rest) ∙ take-append-drop 4 s)

-- a `styp` of the chunk, or none
pub brands-mean : (c : List ℕ) (b : Part) → all_le 255 c ≡ true → Inside c b → styp_ok b ≡ true → minor_version c b ≡ 0
    → styp_of c b ≡ styp_by (brands_of (bytes_at c (body_of b)))
unfolding styp_of brands_of styp_by
brands-mean c b low inside ok minor = by (styp-long b ok)
  where
    by : (b.len ≡ 0) ⊎ ((16 ≤ b.len) × (b.len % 4 ≡ 0))
        → cond (eqb b.len 0) None (Some (bytes_at c (body_of b))) ≡ styp_by (brands_of (bytes_at c (body_of b)))
    by (inl z) =
        let e : bytes_at c (body_of b) ≡ [] = ap (bytes_at c) (sym (body-short b (omega arith))) ∙ slice-none b.at (b.at + 0) c (omega arith) in
        rw (eq-eqb b.len 0 z) (sym (ap (λ (l : List ℕ). styp_by (brands_of l)) e))
    by (inr (long, fours)) =
        let within : end_of b ≤ length c = inside.within in
        let p : ℕ = b.at + 8 in
        let end : ℕ = p + (b.len - 8) in
        let is : slice p end c ≡ bytes_at c (body_of b) = ap (bytes_at c) (body-long b (omega arith)) in
        let n : length (slice p end c) ≡ b.len - 8 = omega (arith, length-slice p end c (omega arith)) in
        let four : p + 4 ≡ b.at + 12 = omega arith in
        let version : take 4 (drop 4 (slice p end c)) ≡ be 4 0 =
        ap (take 4) (drop-slice p end 4 c)
        ∙ take-slice (p + 4) end 4 c (omega arith) (omega arith)
        ∙ ap (λ (m : ℕ). slice m (m + 4) c) four
        ∙ sym (be-slice c low 4 (b.at + 12) (omega arith))
        ∙ ap (be 4) (minor-some c b long ∙ minor) in
        rw (ne_eqb b.len 0 (λ (z : b.len ≡ 0). omega arith))
        (sym (subst (λ (l : List ℕ). styp_by (brands_of l) ≡ Some l) is (styp-back (slice p end c) (omega arith) version)))
