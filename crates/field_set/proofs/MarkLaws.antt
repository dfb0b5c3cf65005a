-- Which fields of a lawful set stand together. Assumes nothing.
use Prim.Native.Nat.{ℕ}
use mathlib.Core.Path.{◌≡◌}
use mathlib.Core.Bool.{Bool, true, false, not, ◌&&◌, ◌||◌, false≢true}
use mathlib.Core.List.{List}
use borrow.Author.Tests.{eq-eqb, not-true}
use lib.Dec.{eqb}
use lib.ListN.{get_or}
use Rattle.laws.proofs.TestLaws.{left, right, neither}
use Rattle.track.specs.declared.Track.{Track}
use Rattle.track.specs.Track.{none}
use Rattle.field_table.specs.Lines.{lines, line_for, line_number, marks_of, count_at}
use Rattle.field_set.specs.Lawful.{has, set_rules, lawful}
use Rattle.field_set.proofs.LawfulLaws.{lawful-facts}

implied : (a b : Bool) → (not a || not b) ≡ true → a ≡ true → b ≡ false
implied true b e q = not-true b e
implied false b e q = absurd (false≢true q)

-- of n samples
pub record Marks (t : Track) (n : ℕ) (w : List ℕ) : Type 0 where
  pub without : n ≡ 0 → (has 3 w ≡ false) × ((has 5 w ≡ false) × ((has 7 w ≡ false) × (has 12 w ≡ false)))
  pub apart : (has 7 w && has 12 w) ≡ false
  pub mapped : has 11 w ≡ true → eqb t.protection none ≡ false

marks-say : (t : Track) (n : ℕ) (w : List ℕ) → set_rules t n (marks_of w) ≡ true → Marks t n w
unfolding set_rules marks_of line_number line_for lines has
marks-say t n w e =
    let e₃ = right _ _ (right _ _ (right _ _ e)) in
    let e₆ = right _ _ (right _ _ (right _ _ e₃)) in
    record {
      without = λ z.
          let q =
          neither (has 1 w || (has 3 w || (has 5 w || (has 7 w || (has 11 w || (has 13 w || has 15 w)))))) (has 9 w || has 12 w)
          (implied (eqb n 0) _ (left _ _ e) (eq-eqb n 0 z)) in
          let q₃ = neither (has 3 w) _ (neither (has 1 w) _ q.0).1 in
          let q₅ = neither (has 5 w) _ q₃.1 in
          (q₃.0, (q₅.0, ((neither (has 7 w) _ q₅.1).0, (neither (has 9 w) (has 12 w) q.1).1)));
      apart = not-true (has 7 w && has 12 w) (left _ _ e₃);
      mapped = implied (has 11 w) (eqb t.protection none) (left _ _ e₆);
    }

pub marks : (t : Track) (w : List ℕ) → lawful t w ≡ true → Marks t (get_or w count_at 0) w
marks t w e = marks-say t (get_or w count_at 0) w (lawful-facts t w e).rules
