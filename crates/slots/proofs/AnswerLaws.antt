-- A ladder whose rungs were asked by themselves: the number of the first that is broken, or that none is. Assumes nothing.
use Prim.Native.Nat.{ℕ}
use mathlib.Core.Path.{◌≡◌, ◌∙◌, sym, ap}
use mathlib.Core.Bool.{false≢true}
use mathlib.Core.List.{List}
use Rattle.std.specs.Prelude.{Result, Ok, Err, is_ok}
use Rattle.laws.specs.Ladder.{Rung, ladder, Hold}
use Rattle.laws.proofs.LadderLaws.{ladder-seen, climbs-all}

module _ {X : Type 0} (rs : List Rung) (y : X) where
  module _ {A : Type 0} (refuse : ℕ → A) (done : A) where
    -- what is done by the answer
    abbrev pub by : Result X ℕ → A
    by (Ok x) = done
    by (Err k) = refuse k

    pub by_answer : (r : Result X ℕ) → r ≡ ladder rs (λ k. Err k) (Ok y) → by r ≡ ladder rs refuse done
    by_answer r e = ap by e ∙ ladder-seen by rs (λ k. Err k) (Ok y)

  -- none is broken
  pub answered_ok : (x : X) → Ok x ≡ ladder rs (λ k. Err k) (Ok y) → Hold rs × (x ≡ y)
  answered_ok x =
      climbs-all (λ (r : Result X ℕ). Ok x ≡ r → Hold rs × (x ≡ y)) (λ k. Err k) rs (Ok y)
      (λ k e. absurd (false≢true (sym (ap is_ok e))))
      (λ h e. (h, cc))
