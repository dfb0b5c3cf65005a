use Rattle.std.proofs.Common.{rules, tests, ◌≡◌, true, false}
use Rattle.std.specs.Char.{is_ascii_digit}
use Rattle.std.specs.List.{list_all}
use Rattle.std.proofs.lemmas.Iterator.{YieldsList-from_slice}
use Rattle.std.proofs.lemmas.Iterator.Search.{all_from_yields_List}
use Rattle.inputs.proofs.DigitLaws.{list_all-digits, IsUtf8-digits}
use Rattle.inputs.proofs.numbers.number.Goals as goal

pub returns-then-not-all : goal.returns-then-not-all
returns-then-not-all c =
    let all : c.all.result ≡ list_all (λ b. is_ascii_digit b) c.args.word.now =
    all_from_yields_List (λ b. is_ascii_digit b) _ _ c.all.result c.all.ensures.ran (YieldsList-from_slice c.args.word.now cc) (λ x b q k. search (rules, tests)) in
    λ p. let digits = list_all-digits c.args.word.now p.0.1 in cc

pub returns-in_err-ok : goal.returns-in_err-ok
returns-in_err-ok c = search (rules, IsUtf8-digits)
