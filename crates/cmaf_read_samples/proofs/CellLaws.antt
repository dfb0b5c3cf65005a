-- What a call of `cells` or `sizes` stored is the words of a field, where it stands. Assumes nothing.
use Prim.Native.Nat.{ℕ, ◌+◌}
use native.Mathlib.Numerals.{add-one}
use mathlib.Core.Path.{◌≡◌, refl, sym, ◌∙◌, ap}
use mathlib.Core.Bool.{Bool, true, false, not}
use mathlib.Core.List.{List, [], ◌∷◌, map}
use lib.ListN.{set}
use lib.Seq.{sets}
use Rattle.laws.proofs.GateLaws.{failed, held}
use Rattle.cmaf_read_trun.specs.declared.rows.Run.{Run}
use Rattle.cmaf_read_trun.specs.Rows.{has_column, cell}
use Rattle.cmaf_read_trun.specs.Samples.{each_from, column_of}
use Rattle.field_rules.specs.Fields.{words_of}
use Rattle.cmaf_read_samples.specs.declared.cells.Way.{Way}
use Rattle.cmaf_read_samples.specs.Ways.{value_of}
use Rattle.cmaf_read_samples.specs.Held.{held_if}
use Rattle.cmaf_read_trun.proofs.EachLaws.{each_map}

-- a way that is known under another name
pub way-is : (v : Way) {w : Way} (x : ℕ) → w ≡ v → value_of v x ≡ value_of w x
way-is v x e = rw e

-- two fields that stand alike and have the same values
pub held_same : (a b : Bool) (xs ys : List ℕ) → a ≡ b → (b ≡ true → xs ≡ ys) → held_if a xs ≡ held_if b ys
unfolding held_if
held_same a true xs ys e h = rw e (ap (held_if true) (h refl))
held_same a false xs ys e h = rw e

module _ (x : List ℕ) (place : ℕ) {stands : Bool} where
  -- the field doesn't stand
  pub not-stored : (vs : List ℕ) → stands ≡ false → x ≡ sets x place (words_of (held_if stands vs))
  unfolding held_if
  not-stored vs e = rw e

  -- it stands: its mark, and its values after it
  pub list-stored : (vs : List ℕ) {after : List ℕ} → stands ≡ true → after ≡ sets (set x place 1) (place + 1) vs
      → after ≡ sets x place (words_of (held_if stands vs))
  unfolding held_if
  list-stored vs e h = rw e (rw add-one at h)

  pub one-stored : (v : ℕ) → stands ≡ true → set (set x place 1) (place + 1) v ≡ sets x place (words_of (held_if stands (v ∷ [])))
  unfolding held_if
  one-stored v e = rw (e, add-one)

module _ (c : List ℕ) (r : Run) (column : ℕ) (way : Way) (x : List ℕ) (place : ℕ) {has : Bool} (q : has ≡ has_column r column) where
  -- the field of a column that isn't there
  pub column-none : not has ≡ true → x ≡ sets x place (words_of (held_if (has_column r column) (map (value_of way) (column_of c r column))))
  column-none h = not-stored x place _ (failed q h)

  -- and of one that is
  pub column-stored : not has ≡ false → {after : List ℕ}
      → after ≡ sets (set x place 1) (place + 1) (each_from (λ j. value_of way (cell c r column j)) r.count 0)
      → after ≡ sets x place (words_of (held_if (has_column r column) (map (value_of way) (column_of c r column))))
  unfolding column_of
  column-stored h w =
      list-stored x place _ (held q h)
      (w ∙ rw (held q h) (ap (sets (set x place 1) (place + 1)) (sym (each_map (value_of way) (cell c r column) r.count 0))))
