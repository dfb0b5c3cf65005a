-- Answers as they are handed up: a refusal, the same answer by another rule, and what is handed out in the end. Assumes nothing.
use Prim.Native.Nat.{ℕ, ◌+◌, ◌≤◌, zero-le}
use mathlib.Core.Path.{◌≡◌, ◌∙◌, ap}
use mathlib.Core.List.{List}
use Rattle.std.specs.Prelude.{Result, Ok, Err}
use Rattle.std.proofs.Math.Seq.{slice}
use Rattle.refusal.specs.declared.Refusal.{Refusal}
use Rattle.refusal.specs.Numbers.{number_of}
use Rattle.slots.specs.Table.{Out, out}
use Rattle.answers.specs.declared.answer.Answer.{Answer}
use Rattle.answers.specs.declared.answer.Handed.{Handed}
use Rattle.answers.specs.Took.{Took, took, refused}
use Rattle.answers.specs.Answered.{given, AnsweredAs}

-- a refusal, where the rules give one
pub refused_as : {lent output s : List ℕ} (r : Refusal) {e : Out Took} → out (refused output (number_of r)) s ≡ e → AnsweredAs e lent (Err r) output s
refused_as r h = record { so = h; inside = zero-le }

-- the same answer, where two rules give the same
pub answered-on : {lent output s : List ℕ} {a : Result Answer Refusal} {e f : Out Took} → AnsweredAs e lent a output s → e ≡ f → AnsweredAs f lent a output s
answered-on h q = record { so = h.so ∙ q; inside = h.inside }

-- the payload as a part of what was lent
pub handed_out : {lent output s : List ℕ} (a : Answer) (h : Handed) {e : Out Took} → AnsweredAs e lent (Ok a) output s → h.front ≡ a.front
    → h.payload.now ≡ slice a.payload.at (a.payload.at + a.payload.len) lent → out (given (Ok h) output) s ≡ e
handed_out {lent} {output} {s} a h is f p =
    ap (λ (n : ℕ). out (took 0 n h.payload.now output) s) f ∙ ap (λ (q : List ℕ). out (took 0 a.front q output) s) p ∙ is.so
