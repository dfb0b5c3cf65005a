-- `slots::lawful::set_ok` meets its contract, by what its tests come to.
use mathlib.Core.Path.{refl, sym, ◌∙◌}
use borrow.Author.Rules.{rules}
use borrow.Author.Tests.{not-true, not-false}
use borrow.Author.Rules.{part_to_end}
use Rattle.laws.proofs.GateLaws.{failed, held}
use Rattle.share_words.specs.Share.{set_at}
use Rattle.told_sizes.proofs.SumLaws.{lawful-summable}
use Rattle.effective.proofs.DurationLaws.{lawful-timed}
use Rattle.slots.proofs.ShareLaws.{lent-long, set-unlawful, last-unlawful, expected-unlawful, set-lawful}
use Rattle.slots.proofs.lawful.set_ok.Goals as goal

pub test_set-k-requires : goal.test_set-k-requires
test_set-k-requires c = record { w_len = lent-long c.args.s.now c.requires.0; iv_size_bound = c.requires.1 }

pub returns-then-not-k : goal.returns-then-not-k
returns-then-not-k c =
    let s = c.args.s.now in
    set-unlawful _ s _ (part_to_end s set_at) (failed c.test_set-k.ensures.right c.if-not-k.true)

pub last_fits-requires : goal.last_fits-requires
last_fits-requires c =
    let k = c.test_set-k.ensures in
    let on = c.if-not-k.false in
    let g = held k.right on in
    record { summable = (lawful-summable _ _ (lent-long c.args.s.now c.requires.0) g, g); pairs_value = k.paired (held refl on) }

pub returns-then-not-last_fits : goal.returns-then-not-last_fits
returns-then-not-last_fits c =
    let s = c.args.s.now in
    last-unlawful _ s _ (part_to_end s set_at) (sym c.last_fits.ensures ∙ c.if-not-last_fits.true)

pub durations_by-d-requires : goal.durations_by-d-requires
durations_by-d-requires c =
    let k = c.test_set-k.ensures in
    let on = c.if-not-k.false in
    (lawful-timed _ _ (lent-long c.args.s.now c.requires.0) (held k.right on), k.summed (held refl on))

pub bounds-w-0 : goal.bounds-w-0
bounds-w-0 c = let l = lent-long c.args.s.now c.requires.0 in search rules

pub returns-then-ne : goal.returns-then-ne
returns-then-ne c =
    let s = c.args.s.now in
    expected-unlawful _ s _ (part_to_end s set_at) _ _ c.expected_of.ensures _ c.durations_by-d.ensures c.expected_by-e.ensures
    (not-true _ (sym c.ne.ensures ∙ c.if-ne.true))

pub sizes_agree-requires : goal.sizes_agree-requires
sizes_agree-requires c = lawful-summable _ _ (lent-long c.args.s.now c.requires.0) (held c.test_set-k.ensures.right c.if-not-k.false)

pub returns : goal.returns
returns c =
    let s = c.args.s.now in
    set-lawful _ s _ (part_to_end s set_at) _ _ c.expected_of.ensures _ c.durations_by-d.ensures c.expected_by-e.ensures
    (held c.test_set-k.ensures.right c.if-not-k.false) (sym c.last_fits.ensures ∙ c.if-not-last_fits.false)
    (not-false _ (sym c.ne.ensures ∙ c.if-ne.false)) _ c.sizes_agree.ensures
