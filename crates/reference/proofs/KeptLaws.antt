-- What an accepted object keeps of a share, part by part. Assumes nothing.
use Prim.Native.Nat.{ℕ, ◌+◌, ◌-◌}
use native.Mathlib.Omega.{arith}
use mathlib.Core.Path.{◌≡◌, sym, ◌∙◌, ap}
use mathlib.Core.Bool.{Bool, cond}
use mathlib.Core.List.{List, ◌∷◌, ◌++◌}
use lib.ListN.{length, take, drop}
use lib.Seq.{slice, take_at, length-take-le, drop-append-add}
use Rattle.laws.proofs.SliceLaws.{slice-drop}
use Rattle.share_words.specs.Share.{accepted_at, held_at, prft_at, prft_end, share_len}
use Rattle.effective.specs.Expected.{next_time, expected_by}
use Rattle.counters.specs.Protected.{last_protected}
use Rattle.slots.proofs.ShareParts.{same-track}
use Rattle.prft_value.specs.declared.Prft.{Prft}
use Rattle.reference.specs.Kept.{prft_words, beside_words, expected_after, last_after, reference_words, kept_words}

-- the parameters stay
pub kept-parameters : (delta : Bool) (n : ℕ) (p : Prft) (w : List ℕ) (payload : ℕ) (s : List ℕ) → length s ≡ share_len
    → take accepted_at (kept_words delta n p w payload s) ≡ take accepted_at s
unfolding kept_words
kept-parameters delta n p w payload s l = take_at (take accepted_at s) _ accepted_at (length-take-le accepted_at s (omega arith))

-- from the mark of the reference on, what is kept goes by the parameters and the reference before it alone, and not by the count
pub kept-reference : (delta : Bool) (n m : ℕ) (p : Prft) (w : List ℕ) (payload : ℕ) (s s' : List ℕ) → length s ≡ share_len → length s' ≡ share_len
    → take accepted_at s ≡ take accepted_at s' → drop held_at s ≡ drop held_at s' → drop held_at (kept_words delta n p w payload s) ≡ drop held_at (kept_words delta m p w payload s')
unfolding kept_words expected_after last_after
kept-reference delta n m p w payload s s' l l' a e =
    let q : slice prft_at prft_end s ≡ slice prft_at prft_end s' =
    sym (slice-drop held_at (prft_at - held_at) (prft_end - held_at) s (omega arith)) ∙ ap (slice (prft_at - held_at) (prft_end - held_at)) e ∙ slice-drop held_at (prft_at - held_at) (prft_end - held_at) s' (omega arith) in
    past (take accepted_at s) n (reference_words (cond delta (slice prft_at prft_end s) (prft_words p)) (beside_words (expected_after w s) (last_after w payload s)) w) (length-take-le accepted_at s (omega arith))
    ∙ (λ j. reference_words (cond delta (q j) (prft_words p)) (beside_words (expected_by (next_time (same-track s s' a j) w)) (last_protected (same-track s s' a j) w payload)) w)
    ∙ sym (past (take accepted_at s') m (reference_words (cond delta (slice prft_at prft_end s') (prft_words p)) (beside_words (expected_after w s') (last_after w payload s')) w) (length-take-le accepted_at s' (omega arith)))
  where
    past : (xs : List ℕ) (v : ℕ) (ys : List ℕ) → length xs ≡ accepted_at → drop held_at (xs ++ (v ∷ ys)) ≡ ys
    past xs v ys h = ap (λ (k : ℕ). drop (k + 1) (xs ++ (v ∷ ys))) (sym h) ∙ drop-append-add xs (v ∷ ys) 1
