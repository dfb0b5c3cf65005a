-- `saiz` and `saio`: their tests, and what these show. Assumes nothing.
use Prim.Native.Nat.{ℕ, ◌+◌, ◌-◌, ◌*◌, ◌≤◌, ◌<◌}
use native.Mathlib.Omega.{arith}
use mathlib.Core.Path.{◌≡◌, refl, sym, ◌∙◌, ap, ap₂}
use mathlib.Core.Bool.{Bool, true, false, cond, ◌&&◌}
use mathlib.Core.List.{List}
use borrow.Author.Tests.{ltb-true, ltb-false, eqb-true, eq-eqb, ne_eqb}
use lib.Dec.{eqb, ltb}
use Rattle.laws.proofs.TestLaws.{and_left, and_right, same_test}
use Rattle.byte_parts.specs.declared.Part.{Part}
use Rattle.cmaf_read_tree.specs.Numbers.{u32, u8}
use Rattle.cmaf_read_senc.specs.Sizes.{saiz_ok, saiz_count, info_size, saio_ok, leads_to}
use Rattle.cmaf_read_senc.proofs.SencLaws.{short, long}

module _ (c : List ℕ) (b : Part) where
  -- ---- saiz

  -- the length that it must have, by its default
  abbrev length_by : Bool → Bool
  length_by t = eqb (u32 c (b.at + 8)) 0 && eqb b.len (17 + cond t (u32 c (b.at + 13)) 0)

  pub saiz-short : b.len < 17 → eqb b.len 0 ≡ saiz_ok c b
  unfolding saiz_ok
  saiz-short h = short b.len 17 _ _ h

  saiz-long : 17 ≤ b.len → length_by (eqb (u8 c (b.at + 12)) 0) ≡ saiz_ok c b
  unfolding saiz_ok
  saiz-long h = long b.len 17 _ _ h

  -- by what was read: version and flags, the count, the default
  module _ (f n d : ℕ) (p : f ≡ u32 c (b.at + 8)) (q : n ≡ u32 c (b.at + 13)) (r : d ≡ u8 c (b.at + 12)) (h : 17 ≤ b.len) where
    pub saiz-table : d ≡ 0 → (eqb f 0 && eqb b.len (17 + n)) ≡ saiz_ok c b
    saiz-table e =
        ap₂ (λ (i j : ℕ). eqb i 0 && eqb b.len (17 + j)) p q ∙ ap length_by (sym (eq-eqb (u8 c (b.at + 12)) 0 (sym r ∙ e))) ∙ saiz-long h

    pub saiz-default : (d ≡ 0 → ⊥) → (eqb f 0 && eqb b.len 17) ≡ saiz_ok c b
    saiz-default e =
        ap (λ (i : ℕ). eqb i 0 && eqb b.len 17) p ∙ ap length_by (sym (ne_eqb (u8 c (b.at + 12)) 0 (λ z. e (r ∙ z)))) ∙ saiz-long h

  pub infos-none : b.len < 17 → 0 ≡ saiz_count c b
  unfolding saiz_count
  infos-none h = short b.len 17 _ _ h

  pub infos-some : 17 ≤ b.len → u32 c (b.at + 13) ≡ saiz_count c b
  unfolding saiz_count
  infos-some h = long b.len 17 _ _ h

  -- a box that counts a sample stands
  pub saiz-stands : {i : ℕ} → i < saiz_count c b → 17 ≤ b.len
  saiz-stands {i} h = by (ltb b.len 17) refl
    where
      by : (x : Bool) → ltb b.len 17 ≡ x → 17 ≤ b.len
      by true e = absurd (omega (arith, h, infos-none (ltb-true _ _ e)))
      by false e = ltb-false _ _ e

  -- and has the byte of each sample, where the default is 0
  pub saiz-room : {i : ℕ} → saiz_ok c b ≡ true → i < saiz_count c b → u8 c (b.at + 12) ≡ 0 → 17 + i < b.len
  saiz-room k h e =
      let s = saiz-stands h in
      let z : b.len ≡ 17 + u32 c (b.at + 13) = eqb-true _ _ (and_right (eqb (u32 c (b.at + 8)) 0) _ (saiz-table _ _ _ refl refl refl s e ∙ k)) in
      omega (arith, z, h, infos-some s)

  pub info-default : (i d : ℕ) → d ≡ u8 c (b.at + 12) → (d ≡ 0 → ⊥) → d ≡ info_size c b i
  unfolding info_size
  info-default i d r h =
      r ∙ sym (ap (λ (t : Bool). cond t (u8 c (b.at + 17 + i)) (u8 c (b.at + 12))) (ne_eqb (u8 c (b.at + 12)) 0 (λ z. h (r ∙ z))))

  pub info-own : (i : ℕ) → u8 c (b.at + 12) ≡ 0 → u8 c (b.at + 17 + i) ≡ info_size c b i
  unfolding info_size
  info-own i h = sym (ap (λ (t : Bool). cond t (u8 c (b.at + 17 + i)) (u8 c (b.at + 12))) (eq-eqb (u8 c (b.at + 12)) 0 h))

  -- ---- saio

  pub saio-short : b.len < 16 → eqb b.len 0 ≡ saio_ok c b
  unfolding saio_ok
  saio-short h = short b.len 16 _ _ h

  pub saio-long : (f n : ℕ) → f ≡ u32 c (b.at + 8) → n ≡ u32 c (b.at + 12) → 16 ≤ b.len
      → (eqb f 0 && eqb b.len (16 + 4 * n)) ≡ saio_ok c b
  unfolding saio_ok
  saio-long f n p q h = ap₂ (λ (i j : ℕ). eqb i 0 && eqb b.len (16 + 4 * j)) p q ∙ long b.len 16 _ _ h

  module _ (moof : Part) (at : ℕ) where
    pub leads-not : (b.len ≡ 20 → ⊥) → false ≡ leads_to c b moof at
    unfolding leads_to
    leads-not h = sym (ap (λ (t : Bool). t && eqb (moof.at + u32 c (b.at + 16)) at) (ne_eqb b.len 20 h))

    -- a distance, and where it leads
    distance : moof.at ≤ at → (v : ℕ) → eqb v (at - moof.at) ≡ eqb (moof.at + v) at
    distance h v =
        same_test _ _
        (λ e. let z : v ≡ at - moof.at = eqb-true _ _ e in eq-eqb (moof.at + v) at (omega arith))
        (λ e. let z : moof.at + v ≡ at = eqb-true _ _ e in eq-eqb v (at - moof.at) (omega arith))

    pub leads-by : (v : ℕ) → v ≡ u32 c (b.at + 16) → moof.at ≤ at → b.len ≡ 20 → eqb v (at - moof.at) ≡ leads_to c b moof at
    unfolding leads_to
    leads-by v r h e =
        distance h v
        ∙ ap (λ (i : ℕ). eqb (moof.at + i) at) r
        ∙ sym (ap (λ (t : Bool). t && eqb (moof.at + u32 c (b.at + 16)) at) (eq-eqb b.len 20 e))

    -- where it leads, and that a box of the right length then has one offset by its own count
    module _ (l : leads_to c b moof at ≡ true) where
      leads-both : (eqb b.len 20 && eqb (moof.at + u32 c (b.at + 16)) at) ≡ true
      unfolding leads_to
      leads-both = l

      pub leads-length : b.len ≡ 20
      leads-length = eqb-true _ _ (and_left (eqb b.len 20) (eqb (moof.at + u32 c (b.at + 16)) at) leads-both)

      pub leads-place : moof.at + u32 c (b.at + 16) ≡ at
      leads-place = eqb-true _ _ (and_right (eqb b.len 20) (eqb (moof.at + u32 c (b.at + 16)) at) leads-both)

      pub one-offset : saio_ok c b ≡ true → u32 c (b.at + 12) ≡ 1
      one-offset k =
          let n : ℕ = u32 c (b.at + 12) in
          let w = saio-long _ _ refl refl (omega (arith, leads-length)) ∙ k in
          let z : b.len ≡ 16 + 4 * n = eqb-true _ _ (and_right (eqb (u32 c (b.at + 8)) 0) (eqb b.len (16 + 4 * n)) w) in
          omega (arith, z, leads-length)
