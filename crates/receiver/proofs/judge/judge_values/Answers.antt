-- `receiver::judge::judge_values` meets its contract: what it was told decides the number, and what it leaves is ready.
use mathlib.Core.Path.{refl, ◌∙◌}
use borrow.Author.Rules.{part_to_end}
use Rattle.std.proofs.lemmas.Result.{err_from_is_err_and}
use Rattle.laws.proofs.TestLaws.{all-bytes}
use Rattle.laws.proofs.HalvesLaws.{front-stays, rest-new}
use Rattle.refusal.proofs.NumberLaws.{number-some}
use Rattle.field_table.specs.Lines.{set_len}
use Rattle.event_value.specs.Events.{events_len}
use Rattle.receiver.proofs.JudgeLaws.{end-inside, judged-none}
use Rattle.receiver.proofs.TestedLaws.{ivs-same}
use Rattle.receiver.proofs.ValueNumber.{values-lent, ivs-lent, values-refused, ivs-refused, values-judged}
use Rattle.receiver.proofs.judge.judge_values.Goals as goal

pub overflow_sub-payload : goal.overflow_sub-payload
overflow_sub-payload c = end-inside c.requires.set_read.1.head

pub values_of-v-requires : goal.values_of-v-requires
values_of-v-requires c =
    let v = c.requires.set_read.1 in
    (v.split.telling.words, v.head.share)

pub values_hold-requires-clause-testable : goal.values_hold-requires-clause-testable
values_hold-requires-clause-testable c =
    values-lent c.values_of-v.result c.requires.set_read.1 (all-bytes c.args.o.now (λ i. (c.type_inv.o i).fits)) c.values_of-v.ensures

pub returns-in_err-values_hold : goal.returns-in_err-values_hold
returns-in_err-values_hold c =
    let p = err_from_is_err_and c.from_residual.result c.from_residual.ensures.1 in
    λ F v.
    rw (p.1, p.2)
    (judged-none F _ _ _ _ _ _
    (values-refused c.values_of-v.result v (all-bytes c.args.o.now (λ i. (c.type_inv.o i).fits)) c.values_of-v.ensures c.in_err-values_hold.ensures (number-some _)))

-- what `derive_ivs` is lent
pub derive_ivs-requires-clause-behind : goal.derive_ivs-requires-clause-behind
derive_ivs-requires-clause-behind c =
    rw (part_to_end c.values_hold.new.words events_len)
    (λ _. ivs-lent c.values_of-v.result c.requires.set_read.1 (all-bytes c.args.o.now (λ i. (c.type_inv.o i).fits)) c.values_of-v.ensures c.in_ok-values_hold.ensures refl)

pub returns-in_err-derive_ivs : goal.returns-in_err-derive_ivs
returns-in_err-derive_ivs c =
    let p = err_from_is_err_and c.from_residual-in_err-derive_ivs.result c.from_residual-in_err-derive_ivs.ensures.1 in
    λ F v.
    rw (p.1, p.2)
    (judged-none F _ _ _ _ _ _
    (ivs-refused c.values_of-v.result v (all-bytes c.args.o.now (λ i. (c.type_inv.o i).fits)) c.values_of-v.ensures c.in_ok-values_hold.ensures refl
    (ivs-same (part_to_end c.values_hold.new.words events_len) refl refl (c.in_err-derive_ivs.ensures _)) (number-some _)))

pub returns : goal.returns
returns c =
    let l = c.values_hold.auto.words ∙ c.requires.words_len in
    λ F v.
    values-judged c.values_of-v.result v (all-bytes c.args.o.now (λ i. (c.type_inv.o i).fits)) c.values_of-v.ensures c.in_ok-values_hold.ensures refl
    (ivs-same (part_to_end c.values_hold.new.words events_len) refl (rest-new events_len set_len c.values_hold.new.words l c.derive_ivs.new.x) (c.in_ok-derive_ivs.ensures _)) refl
    (front-stays events_len set_len c.values_hold.new.words l c.derive_ivs.new.x)
