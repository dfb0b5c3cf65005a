-- A table of eight shares, and what a call on one share is on the table.
-- ==== The rules
use Rattle.std.specs.Prelude.{ℕ, ◌*◌, List, [], ◌∷◌, ◌++◌, Result, Ok, Err, eqb, leb, length, take, drop}
use Rattle.laws.specs.Ladder.{Rung, ◌else◌, ladder}
use Rattle.share_words.specs.Share.{share_len, table_len}

-- what a call answers, and the words as they then are
pub record Out (X : Type 0) : Type 0 where
  pub answer : X
  pub words : List ℕ

abbrev pub out : {X : Type 0} → X → List ℕ → Out X
out x s = record { answer = x; words = s }

-- an answer that is a number alone
abbrev pub itself : ℕ → ℕ
itself k = k

-- 01: "each slot's share of it starts at slot number times the share's length"
abbrev pub share_at : List ℕ → ℕ → List ℕ
share_at t slot = take share_len (drop (slot * share_len) t)

-- the table with the words s in the place of a slot's share
abbrev pub put_share : List ℕ → ℕ → List ℕ → List ℕ
put_share t slot s = take (slot * share_len) t ++ (s ++ drop share_len (drop (slot * share_len) t))

-- 01: "Order: 18 for length, 1, .."
abbrev pub table_rungs : List ℕ → ℕ → List Rung
table_rungs t slot = (eqb (length t) table_len else 18) ∷ (leb slot 7 else 1) ∷ []

-- where the share of a slot starts, or the number that is given instead
unfoldable pub place_in : List ℕ → ℕ → Result ℕ ℕ
place_in t slot = ladder (table_rungs t slot) (λ k. Err k) (Ok (slot * share_len))

module _ {X : Type 0} where
  -- a call on a share, given by the rungs of its ladder and by what it makes of the share; a refusal changes nothing
  unfoldable pub on_share : (ℕ → X) → (List ℕ → List Rung) → X → (List ℕ → List ℕ) → List ℕ → Out X
  on_share refuse rungs done act s = ladder (rungs s) (λ k. out (refuse k) s) (out done (act s))

  -- a call on the share of a slot, seen from the table; `refuse` gives the answer for a number
  unfoldable pub on_table : (ℕ → X) → (List ℕ → Out X) → List ℕ → ℕ → Out X
  on_table refuse f t slot =
      ladder (table_rungs t slot) (λ k. out (refuse k) t)
      (out (f (share_at t slot)).answer (put_share t slot (f (share_at t slot)).words))
