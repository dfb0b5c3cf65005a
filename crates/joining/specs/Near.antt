-- Shares that have the same parameters and the same reference.
-- ==== What only proofs need
use Rattle.std.specs.Prelude.{ℕ, ◌+◌, ◌%◌, ◌^◌, ◌≤◌, ◌≡◌, List, ◌∷◌, ◌++◌}
use Rattle.track.specs.declared.Asked.{Asked}
use Rattle.track.specs.Track.{u32}
use Rattle.slots.specs.Share.{param_words}
use Rattle.slots.specs.Table.{Out}
use Rattle.answers.specs.Took.{Took}
use Rattle.joining.specs.Matches.{Matches}

-- a share by its parts: the parameters, the count, and all that belongs to the reference
abbrev pub made : Asked → ℕ → List ℕ → List ℕ
made a n r = param_words a ++ (n ∷ r)

-- two shares with the parameters a that are the same but for their counts, which are d apart
pub record Near (a : Asked) (d : ℕ) (s s' : List ℕ) : Type 0 where
  pub count : ℕ
  pub count' : ℕ
  pub rest : List ℕ
  pub is : s ≡ made a count rest
  pub is' : s' ≡ made a count' rest
  pub small : count' ≤ u32
  pub apart : count ≡ (count' + d) % 2 ^ 32

-- what a call gives on them matches, and they stay so
pub record Stays (a : Asked) (d : ℕ) (x y : Out Took) : Type 0 where
  pub matches : Matches d x y
  pub near : Near a d x.words y.words
