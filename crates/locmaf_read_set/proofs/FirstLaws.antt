-- The first two rules of the fields, as code asks them. Assumes nothing.
use Prim.Native.Nat.{ℕ}
use mathlib.Core.Path.{◌≡◌, refl, ap}
use mathlib.Core.Bool.{Bool, true, false, not, ◌&&◌}
use mathlib.Core.List.{List}
use lib.Dec.{leb}
use Rattle.constants.specs.Maxima.{subsamples_most}
use Rattle.laws.proofs.GateLaws.{failed, held}
use Rattle.laws.proofs.LadderLaws.{number_of, broken, passed, top}
use Rattle.field_set.specs.declared.lawful.Tally.{Tally}
use Rattle.locmaf_read_field.specs.declared.cells.Cell.{Cell}
use Rattle.locmaf_read_set.specs.Read.{brands_in, first_rungs}

module _ (index : List ℕ) (e b : Cell) (c : Tally) (w : Bool) (ew : w ≡ brands_in index) where
  asked : (e.first && (b.first && w)) ≡ (e.first && (b.first && brands_in index))
  asked = ap (λ (z : Bool). e.first && (b.first && z)) ew

  pub lengths-broken : not (e.first && (b.first && w)) ≡ true → 14 ≡ number_of (first_rungs index e b c)
  unfolding first_rungs
  lengths-broken q = broken _ 14 _ (λ k. k) 0 (failed asked q)

  module _ (q₁ : not (e.first && (b.first && w)) ≡ false) where
    pub sum-broken : not (b.within && (c.ok && leb c.sum subsamples_most)) ≡ true → 15 ≡ number_of (first_rungs index e b c)
    unfolding first_rungs
    sum-broken q = passed _ 14 _ (λ k. k) 0 (held asked q₁) (broken _ 15 _ (λ k. k) 0 (failed refl q))

    pub both-kept : not (b.within && (c.ok && leb c.sum subsamples_most)) ≡ false → 0 ≡ number_of (first_rungs index e b c)
    unfolding first_rungs
    both-kept q = passed _ 14 _ (λ k. k) 0 (held asked q₁) (passed _ 15 _ (λ k. k) 0 (held refl q) (top (λ k. k) 0))
