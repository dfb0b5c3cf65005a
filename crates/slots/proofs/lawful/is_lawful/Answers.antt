-- `slots::lawful::is_lawful` meets its contract, by what its tests come to.
use mathlib.Core.Path.{◌∙◌, ap, sym}
use Rattle.track.specs.declared.Track.{Track}
use Rattle.track.specs.Track.{narrow}
use Rattle.track.proofs.TrackLaws.{ranges}
use Rattle.slots.specs.Share.{reference_ok}
use Rattle.slots.proofs.ShareLaws.{closed, bad-track, good-track}
use borrow.Author.Rules.{rules}
use Rattle.slots.proofs.lawful.is_lawful.Goals as goal

pub returns-then-id-eq0 : goal.returns-then-id-eq0
returns-then-id-eq0 c = closed c.args.side c.args.s.now c.requires _ c.if-id-eq0.true c.bits.ensures

pub returns-then-not-is_lawful : goal.returns-then-not-is_lawful
returns-then-not-is_lawful c = bad-track c.args.side c.args.s.now c.requires c.if-id-eq0.false (rw c.asked_of-a.ensures at (sym c.is_lawful.ensures ∙ c.if-not-is_lawful.true))

pub narrowed-requires : goal.narrowed-requires
narrowed-requires c = sym c.is_lawful.ensures ∙ c.if-not-is_lawful.false

pub reference_ok-requires : goal.reference_ok-requires
reference_ok-requires c = (search rules, rw c.narrowed.ensures (ranges _ (sym c.is_lawful.ensures ∙ c.if-not-is_lawful.false)).iv-size)

pub returns : goal.returns
returns c =
    good-track c.args.side c.args.s.now c.requires c.if-id-eq0.false _ _
    (rw c.asked_of-a.ensures at (sym c.is_lawful.ensures ∙ c.if-not-is_lawful.false)) c.accepted_ok.ensures
    (c.reference_ok.ensures ∙ ap (λ (t : Track). reference_ok t c.args.s.now) (c.narrowed.ensures ∙ ap narrow c.asked_of-a.ensures))
