-- `field_set::lawful::test_set` meets its contract: each return by the tests that led to it.
use mathlib.Core.Path.{refl, sym, ◌∙◌}
use Rattle.field_set.proofs.LawfulLaws.{tested-not, many-samples, many-subsamples, lawful-tested}
use Rattle.field_set.proofs.BareLaws.{no_pairs, no-durations}
use borrow.Author.Rules.{rules}
use Rattle.field_set.proofs.lawful.test_set.Goals as goal

pub returns-then-n : goal.returns-then-n
returns-then-n c = tested-not c.unlawful.ensures (many-samples c.args.t c.args.w.now c.if-n.true)

pub bare_ok-requires : goal.bare_ok-requires
bare_ok-requires c =
    let p = c.requires in
    record { w_len = (p.w_len, p.iv_size_bound); n_value = (refl, search rules, sym c.none_stands.ensures ∙ c.if-none_stands.true) }

pub returns-then-none_stands : goal.returns-then-none_stands
returns-then-none_stands c =
    let w = c.args.w.now in
    let none = sym c.none_stands.ensures ∙ c.if-none_stands.true in
    record { right = c.bare_ok.ensures; summed = λ _. no-durations w none _; paired = λ _. no_pairs w none _ }

pub returns-then-not-c : goal.returns-then-not-c
returns-then-not-c c =
    tested-not c.unlawful-then-not-c.ensures
    (many-subsamples c.args.t c.args.w.now c.if-n.false c.requires.iv_size_bound c.tally_of-c.result c.tally_of-c.ensures c.if-not-c.true)

pub returns : goal.returns
returns c =
    let y = c.tally_of-c in
    lawful-tested c.args.t c.args.w.now c.if-n.false c.requires.iv_size_bound y.result y.ensures c.if-not-c.false
    _ _ _ c.regions_ok-r.ensures c.same_iv_size.ensures (rw c.marks_of.ensures at c.rules_ok.ensures)
