-- What the rules on a lawful set say of which fields stand. Assumes nothing.
use Prim.Native.Nat.{ℕ}
use mathlib.Core.Path.{◌≡◌}
use mathlib.Core.Bool.{true, false, not, ◌&&◌, ◌||◌}
use mathlib.Core.List.{List}
use borrow.Author.Tests.{not-true}
use lib.Dec.{eqb, leb}
use lib.ListN.{get_or}
use Rattle.laws.proofs.TestLaws.{left, right, alike}
use Rattle.track.specs.declared.Track.{Track}
use Rattle.track.specs.Track.{cenc}
use Rattle.field_table.specs.Lines.{lines, line_for, line_number, marks_of, count_at}
use Rattle.field_set.specs.Lawful.{has, lawful, set_rules}
use Rattle.field_set.proofs.LawfulLaws.{lawful-facts}

-- which fields stand in a set of n samples
pub record Ruled (t : Track) (n : ℕ) (w : List ℕ) : Type 0 where
  pub sizes : (has 1 w && has 6 w) ≡ false
  pub clear : has 11 w ≡ has 13 w
  pub protected : has 13 w ≡ has 15 w
  pub ivs : has 9 w ≡ (eqb t.protection cenc && not (eqb n 0))
  pub size : (leb n 1 || ((has 1 w || has 6 w) || not (eqb t.size 0))) ≡ true

rules-say : (t : Track) (n : ℕ) (w : List ℕ) → set_rules t n (marks_of w) ≡ true → Ruled t n w
unfolding set_rules marks_of line_number line_for lines has
rules-say t n w e =
    let e₁ = right _ _ (right _ _ e) in
    let e₂ = right _ _ (right _ _ e₁) in
    let e₃ = right _ _ e₂ in
    let e₄ = right _ _ (right _ _ e₃) in
    record {
      sizes = not-true (has 1 w && has 6 w) (left _ _ e₁);
      clear = alike (has 11 w) (has 13 w) (left _ _ e₂);
      protected = alike (has 13 w) (has 15 w) (left _ _ e₃);
      ivs = alike (has 9 w) (eqb t.protection cenc && not (eqb n 0)) (left _ _ e₄);
      size = right _ _ e₄;
    }

pub ruled : (t : Track) (w : List ℕ) → lawful t w ≡ true → Ruled t (get_or w count_at 0) w
ruled t w e = rules-say t (get_or w count_at 0) w (lawful-facts t w e).rules
