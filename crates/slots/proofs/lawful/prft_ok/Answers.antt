-- `slots::lawful::prft_ok` meets its contract, by what its tests come to.
use Rattle.slots.proofs.ShareLaws.{no-prft, some-prft}
use Rattle.slots.proofs.lawful.prft_ok.Goals as goal

pub returns-then-mark-eq0 : goal.returns-then-mark-eq0
returns-then-mark-eq0 c = no-prft c.args.s.now _ c.if-mark-eq0.true c.bits.ensures

pub returns : goal.returns
returns c = some-prft c.args.s.now c.if-mark-eq0.false
