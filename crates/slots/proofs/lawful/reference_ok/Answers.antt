-- `slots::lawful::reference_ok` meets its contract, by what its tests come to.
use Rattle.slots.proofs.ShareLaws.{none-held, one-held}
use Rattle.slots.proofs.lawful.reference_ok.Goals as goal

pub returns-then-held-eq0 : goal.returns-then-held-eq0
returns-then-held-eq0 c = none-held c.args.t c.args.s.now c.requires.0 _ c.if-held-eq0.true c.bits.ensures

pub returns : goal.returns
returns c = one-held c.args.t c.args.s.now c.requires.0 _ _ c.if-held-eq0.false c.prft_ok.ensures c.set_ok.ensures
