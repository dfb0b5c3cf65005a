use Rattle.std.proofs.Common.{rules, tests, ap, ◌∙◌}
use Rattle.std.proofs.lemmas.Iterator.Splits.{YieldsList-from_slice_split}
use Rattle.inputs.specs.Numbers.{is_blank}
use Rattle.inputs.proofs.WordLaws.{first_of_split}
use Rattle.inputs.proofs.numbers.first_word.Goals as goal

pub returns : goal.returns
returns c =
    ap (λ r. r.now) c.unwrap_or.ensures
    ∙ first_of_split is_blank c.args.line.now _ c.next.result c.next.new.self (YieldsList-from_slice_split _ is_blank c.args.line.now c.split.ensures.rest c.split.ensures.done c.split.ensures.closure (λ x r q k. search (rules, tests))) c.next.ensures.steps
