-- What a call gives on two shares. 02: "the same answers, fronts and reference .. The `mfhd` number alone is excepted".
-- ==== What is shown of the rules
use Rattle.std.specs.Prelude.{ℕ, ◌+◌, ◌%◌, ◌^◌, ◌≡◌, List, get_or, take, drop}
use Rattle.share_words.specs.Share.{accepted_at, held_at}
use Rattle.slots.specs.Table.{Out}
use Rattle.answers.specs.Took.{Took}
use Rattle.joining.specs.Number.{number_at, unnumbered}

-- the front that a call wrote: none where it was refused
abbrev pub front_bytes : Took → List ℕ
front_bytes a = take a.front a.output

-- the count of accepted objects in a share
abbrev pub count_of : List ℕ → ℕ
count_of s = get_or s accepted_at 0

-- the same but for the `mfhd` number, where the counts of the two shares are d apart (D140, D141)
pub record Matches (d : ℕ) (a b : Out Took) : Type 0 where
  -- "answers": number, length of the front, payload
  pub number : a.answer.number ≡ b.answer.number
  pub long : a.answer.front ≡ b.answer.front
  pub payload : a.answer.payload ≡ b.answer.payload
  -- "fronts": the number has the same place in both, and all their bytes but its four are the same; and so are all bytes of the room past them
  pub place : number_at (front_bytes a.answer) ≡ number_at (front_bytes b.answer)
  pub front : unnumbered (front_bytes a.answer) ≡ unnumbered (front_bytes b.answer)
  pub past : drop a.answer.front a.answer.output ≡ drop b.answer.front b.answer.output
  -- "and reference"
  pub reference : drop held_at a.words ≡ drop held_at b.words
  -- what is excepted: the count, and so the number (`NumberRuns`)
  pub count : count_of a.words ≡ (count_of b.words + d) % 2 ^ 32
