-- `receiver::receive::refuse` meets its contract.
use Prim.Native.Nat.{ℕ}
use mathlib.Core.Path.{◌∙◌, ap}
use mathlib.Core.List.{List}
use Rattle.refusal.specs.Numbers.{number_of}
use Rattle.slots.specs.Table.{out}
use Rattle.answers.specs.Took.{refused}
use Rattle.answers.specs.Refusals.{after_refusal}
use Rattle.answers.proofs.AnsweredLaws.{refused_as}
use Rattle.receiver.proofs.receive.refuse.Goals as goal

pub returns : goal.returns
returns c =
    let r = c.args.r in
    let s = c.args.s.now in
    λ o output.
    refused_as r
    (ap (λ (z : List ℕ). out (refused output (number_of r)) z) (c.leave.ensures ∙ ap (λ (k : ℕ). after_refusal k s) c.number.ensures))
