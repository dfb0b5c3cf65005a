-- What a chunk or an object is answered with, as the code hands it up.
-- ==== What only mirrors the code
use Rattle.std.specs.Prelude.{ℕ, ◌+◌, ◌≤◌, ◌≡◌, List, [], length, Result, Ok, Err}
use Rattle.std.proofs.Math.Seq.{slice}
use Rattle.refusal.specs.declared.Refusal.{Refusal}
use Rattle.refusal.specs.Numbers.{number_of}
use Rattle.slots.specs.Table.{Out, out}
use Rattle.answers.specs.declared.answer.Answer.{Answer}
use Rattle.answers.specs.declared.answer.Handed.{Handed}
use Rattle.answers.specs.Took.{Took, took, refused}

-- the payload is told by its place in the bytes that were lent
abbrev pub handed : List ℕ → Result Answer Refusal → List ℕ → Took
handed lent (Ok a) output = took 0 a.front (slice a.payload.at (a.payload.at + a.payload.len) lent) output
handed lent (Err r) output = refused output (number_of r)

-- where it ends
abbrev pub end_of : Result Answer Refusal → ℕ
end_of (Ok a) = a.payload.at + a.payload.len
end_of (Err r) = 0

pub record AnsweredAs (is : Out Took) (lent : List ℕ) (a : Result Answer Refusal) (output s : List ℕ) : Type 0 where
  pub so : out (handed lent a output) s ≡ is
  pub inside : end_of a ≤ length lent

-- what a call hands back of the lent bytes
abbrev pub payload_in : Result Handed Refusal → List ℕ
payload_in (Ok h) = h.payload.now
payload_in (Err r) = []

-- what a call hands out, beside what it leaves in the output
abbrev pub given : Result Handed Refusal → List ℕ → Took
given (Ok h) output = took 0 h.front h.payload.now output
given (Err r) output = refused output (number_of r)
