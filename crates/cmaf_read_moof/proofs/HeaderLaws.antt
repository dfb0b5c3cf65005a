-- `mfhd` and `tfdt`: what each way out of their tests says, and the length of a `tfdt` by its version. Assumes nothing.
use Prim.Native.Nat.{ℕ, ◌+◌, ◌≤◌, ◌<◌}
use native.Mathlib.Omega.{arith}
use mathlib.Core.Path.{◌≡◌, sym, ◌∙◌, ap}
use mathlib.Core.Bool.{Bool, true, false, ◌&&◌, ◌||◌}
use mathlib.Core.List.{List}
use borrow.Author.Tests.{eqb-true, eq-eqb, ne_eqb}
use lib.Dec.{eqb}
use Rattle.laws.specs.Tests.{◌and◌}
use Rattle.laws.proofs.TestLaws.{left, right, and_is, either}
use Rattle.byte_parts.specs.declared.Part.{Part}
use Rattle.cmaf_read_shape.specs.Words.{word_of}
use Rattle.cmaf_read_tree.specs.Numbers.{u32, u64}
use Rattle.cmaf_read_moof.specs.Headers.{mfhd_ok, tfdt_ok, bmdt_of}

module _ (c : List ℕ) (b : Part) where
  -- ---- mfhd

  pub mfhd-other : (b.len ≡ 16 → ⊥) → false ≡ mfhd_ok c b
  unfolding mfhd_ok ◌and◌
  mfhd-other h = sym (simp (ne_eqb b.len 16 h))

  pub mfhd-is : (word : ℕ) → b.len ≡ 16 → word ≡ word_of c b → eqb word 0 ≡ mfhd_ok c b
  unfolding mfhd_ok ◌and◌
  mfhd-is word h e = ap (λ (w : ℕ). eqb w 0) e ∙ sym (simp (eq-eqb b.len 16 h))

  -- ---- tfdt

  pub tfdt-short : b.len < 16 → false ≡ tfdt_ok c b
  unfolding tfdt_ok ◌and◌
  tfdt-short h = sym (simp (ne_eqb b.len 16 (λ e. omega arith), ne_eqb b.len 20 (λ e. omega arith)))

  pub tfdt-is : (word : ℕ) → word ≡ word_of c b
      → ((eqb b.len 16 && eqb word 0) || (eqb b.len 20 && eqb word 0x100_0000)) ≡ tfdt_ok c b
  unfolding tfdt_ok
  tfdt-is word e =
      ap (λ (w : ℕ). (eqb b.len 16 && eqb w 0) || (eqb b.len 20 && eqb w 0x100_0000)) e
      ∙ sym
      (ap (λ (t : Bool). t || (eqb b.len 20 and eqb (word_of c b) 0x100_0000)) (and_is (eqb b.len 16) (eqb (word_of c b) 0))
      ∙ ap (λ (t : Bool). (eqb b.len 16 && eqb (word_of c b) 0) || t) (and_is (eqb b.len 20) (eqb (word_of c b) 0x100_0000)))

  module _ (ok : tfdt_ok c b ≡ true) where
    pub tfdt-long : 16 ≤ b.len
    unfolding tfdt_ok
    tfdt-long =
        either (16 ≤ b.len) (eqb b.len 16 and eqb (word_of c b) 0) (eqb b.len 20 and eqb (word_of c b) 0x100_0000)
        (λ e. let n : b.len ≡ 16 = eqb-true _ _ (left _ _ e) in omega arith)
        (λ e. let n : b.len ≡ 20 = eqb-true _ _ (left _ _ e) in omega arith) ok

    -- in version 1 the time has 64 bits
    pub tfdt-wide : (word_of c b ≡ 0 → ⊥) → b.len ≡ 20
    unfolding tfdt_ok
    tfdt-wide h =
        either (b.len ≡ 20) (eqb b.len 16 and eqb (word_of c b) 0) (eqb b.len 20 and eqb (word_of c b) 0x100_0000)
        (λ e. absurd (h (eqb-true _ _ (right _ _ e))))
        (λ e. eqb-true _ _ (left _ _ e)) ok

  pub bmdt-narrow : (r : ℕ) → word_of c b ≡ 0 → r ≡ u32 c (b.at + 12) → r ≡ bmdt_of c b
  unfolding bmdt_of
  bmdt-narrow r h e = e ∙ sym (simp (eq-eqb (word_of c b) 0 h))

  pub bmdt-wide : (r : ℕ) → (word_of c b ≡ 0 → ⊥) → r ≡ u64 c (b.at + 12) → r ≡ bmdt_of c b
  unfolding bmdt_of
  bmdt-wide r h e = e ∙ sym (simp (ne_eqb (word_of c b) 0 h))
