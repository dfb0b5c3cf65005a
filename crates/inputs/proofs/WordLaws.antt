-- The first of the parts that a list is cut in.
use Rattle.std.proofs.Common.{◌≡◌, ℕ, ◌<◌, ◌≤◌, Bool, true, false, List, [], ◌∷◌, length, refl, sym, ◌∙◌, ap, subst, arith, Option, Some, None, Bor, cond, not, take, ◌+◌}
use Rattle.std.specs.Option.{unwrap_or}
use Rattle.std.proofs.Math.Numerals.{one-add}
use Rattle.std.specs.List.{before_first, onto_first, slice_split, position_or_len}
use Rattle.std.proofs.lemmas.Iterator.{YieldsList}

-- the first part is what stands before the first element that passes
slice_split-front : (p : ℕ → Bool) (xs : List ℕ) → (rest : List (List ℕ)) × (slice_split p xs ≡ before_first p xs ∷ rest)
slice_split-front p [] = ([], refl)
slice_split-front p (x ∷ xs) =
    let w = slice_split-front p xs in
    let P : Bool → Type 0 = λ b. (rest : List (List ℕ)) × (cond b ([] ∷ slice_split p xs) (onto_first x (slice_split p xs)) ≡ take (cond (not b) (1 + position_or_len p xs) 0) (x ∷ xs) ∷ rest) in
    elim (p x) as P [
      | true ↦ (slice_split p xs, refl)
      | false ↦ (w.0, ap (onto_first x) w.1 ∙ sym (ap (λ m. take m (x ∷ xs) ∷ w.0) (one-add (position_or_len p xs))))
    ]

-- what the first call gives
pub first_of_split : {S : Type 0} {steps : S → Option (Bor (List ℕ)) → S → Type 0} {s : S} (p : ℕ → Bool) (xs : List ℕ) (d : Bor (List ℕ)) (r : Option (Bor (List ℕ))) (t : S) → YieldsList steps (λ x. x.now) s (slice_split p xs) → steps s r t → (unwrap_or r d).now ≡ before_first p xs
first_of_split {steps = steps} {s = s} p xs d None t h k = let w = slice_split-front p xs in absurd ((subst (λ l. YieldsList steps (λ x. x.now) s l) w.1 h).runs.0 t k)
first_of_split {steps = steps} {s = s} p xs d (Some x) t h k = let w = slice_split-front p xs in ((subst (λ l. YieldsList steps (λ x. x.now) s l) w.1 h).runs.1 x t k).0
