-- What a call hands to C: of the payload its length alone.
-- ==== The rules
use Rattle.std.specs.Prelude.{ℕ, List, length}
use Rattle.slots.specs.Table.{Out}
use Rattle.answers.specs.Took.{Took}

pub record Told : Type 0 where
  pub number : ℕ
  pub front : ℕ
  pub payload : ℕ
  pub output : List ℕ
  pub table : List ℕ

abbrev pub told : ℕ → ℕ → ℕ → List ℕ → List ℕ → Told
told number front payload output table = record { number = number; front = front; payload = payload; output = output; table = table }

abbrev pub tell : Out Took → Told
tell a = told a.answer.number a.answer.front (length a.answer.payload) a.answer.output a.words
