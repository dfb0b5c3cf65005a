-- The marks of the fields that a `senc` has. Assumes nothing.
use Prim.Native.Nat.{ℕ}
use mathlib.Core.Path.{◌≡◌, refl, sym, ◌∙◌, ap}
use mathlib.Core.Bool.{Bool, true, false, cond}
use mathlib.Core.List.{List}
use borrow.Author.Tests.{eq-eqb, ne_eqb}
use lib.Dec.{eqb}
use lib.ListN.{length, set, length-set}
use Rattle.field_table.specs.Lines.{ivs_at, subsamples_at, clear_at, protected_at}
use Rattle.cmaf_read_senc.specs.declared.entries.Entries.{Entries}
use Rattle.cmaf_read_set.specs.Stored.{stored_marks}

module _ (e : Entries) (x : List ℕ) where
  -- that of the IVs
  unfoldable pub iv_mark : List ℕ
  iv_mark = cond (eqb e.iv 0) x (set x ivs_at 1)

  pub mark-yes : {y : List ℕ} → (e.iv ≡ 0 → ⊥) → y ≡ set x ivs_at 1 → y ≡ iv_mark
  unfolding iv_mark
  mark-yes h p = p ∙ sym (ap (λ (t : Bool). cond t x (set x ivs_at 1)) (ne_eqb e.iv 0 h))

  pub mark-no : {y : List ℕ} → e.iv ≡ 0 → y ≡ x → y ≡ iv_mark
  unfolding iv_mark
  mark-no h p = p ∙ sym (ap (λ (t : Bool). cond t x (set x ivs_at 1)) (eq-eqb e.iv 0 h))

  pub mark-length : length iv_mark ≡ length x
  unfolding iv_mark
  mark-length = by (eqb e.iv 0)
    where
      by : (t : Bool) → length (cond t x (set x ivs_at 1)) ≡ length x
      by true = refl
      by false = length-set x ivs_at 1

  -- and those of the subsamples
  pub marks-map : {y : List ℕ} → e.map ≡ true → y ≡ iv_mark → set (set (set y subsamples_at 1) clear_at 1) protected_at 1 ≡ stored_marks e x
  unfolding iv_mark stored_marks
  marks-map m p =
      ap (λ (z : List ℕ). set (set (set z subsamples_at 1) clear_at 1) protected_at 1) p
      ∙ sym (ap (λ (t : Bool). cond t (set (set (set iv_mark subsamples_at 1) clear_at 1) protected_at 1) iv_mark) m)

  pub marks-plain : {y : List ℕ} → e.map ≡ false → y ≡ iv_mark → y ≡ stored_marks e x
  unfolding iv_mark stored_marks
  marks-plain m p = p ∙ sym (ap (λ (t : Bool). cond t (set (set (set iv_mark subsamples_at 1) clear_at 1) protected_at 1) iv_mark) m)

  pub marks-length : length (stored_marks e x) ≡ length x
  marks-length = by e.map refl
    where
      by : (t : Bool) → e.map ≡ t → length (stored_marks e x) ≡ length x
      by true m =
          let x₁ : List ℕ = set iv_mark subsamples_at 1 in
          let x₂ : List ℕ = set x₁ clear_at 1 in
          ap length (sym (marks-map m refl)) ∙ length-set x₂ protected_at 1 ∙ length-set x₁ clear_at 1 ∙ length-set iv_mark subsamples_at 1 ∙ mark-length
      by false m = ap length (sym (marks-plain m refl)) ∙ mark-length
